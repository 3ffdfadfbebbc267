-- What orders do to the tags of a run, in which A and Q have a tag each, and cells and registers have those that are declared. Nothing
-- here speaks of rows.
use Rattle.std.specs.Prelude.{ℕ, ◌%◌, ℤ, pos, ◌+ℤ◌, ◌-ℤ◌, neg_ℤ, int_le, ◌&&◌, Option, Some, None, if◌then◌else◌}
use Rattle.ags_isa.specs.declared.orders.Order.{Order}
use Rattle.ags_isa.specs.declared.orders.Order.TheVariants.{Add, Adz, Als, Cla, Clz, Dvp, Inp, Ldq, Lls, Lrs, Mpr, Mpy, Mpz, Out, Sto, Stq, Sub, Suz, Tsq}
use Rattle.ags_tags.specs.declared.tags.Tag.{Tag}
use Rattle.ags_tags.specs.declared.tags.Tag.TheVariants.{Raw, Scale}
use Rattle.ags_tags.specs.Tag.{Scaling, cell_tag, input_tag, output_tag}

-- the tags of A and Q
pub record Tags : Type 0 where
  pub a : Tag
  pub q : Tag

-- both are raw
abbrev pub raw : Tags
raw = record { a = Raw; q = Raw }

-- ---- scales

-- the tag of a scale: outside -128 to 127 it becomes raw
abbrev pub tag_of : ℤ → Tag
tag_of scale = if int_le (neg_ℤ (pos 128)) scale && int_le scale (pos 127) then Scale scale else Raw

-- the tag whose scale is more by a number, or less; raw stays raw
abbrev pub more : Tag → ℤ → Tag
more Raw n = Raw
more (Scale b) n = tag_of (b +ℤ n)

abbrev pub less : Tag → ℤ → Tag
less Raw n = Raw
less (Scale b) n = tag_of (b -ℤ n)

-- the tag of a product, or of a quotient: with a raw part it is raw
abbrev pub product_tag : Tag → Tag → Tag
product_tag tag Raw = Raw
product_tag tag (Scale c) = more tag c

abbrev pub quotient_tag : Tag → Tag → Tag
quotient_tag tag Raw = Raw
quotient_tag tag (Scale c) = less tag c

-- the count of a shift at an address
abbrev pub count_of : ℕ → ℤ
count_of y = pos (y % 64)

-- ---- the tables: y is the address of the order, and e the one that it acts on

-- two tags that an order lets meet
pub record Met : Type 0 where
  pub left : Tag
  pub right : Tag

abbrev pub meets : Tag → Tag → Option Met
meets left right = Some (record { left = left; right = right })

-- Which tags meet.
abbrev pub tags_met : Scaling → Order → (e y : ℕ) → Tags → Option Met
-- What is stored, or given, meets the tag of the cell, or of the output register.
tags_met scales Sto e y t = meets t.a (cell_tag scales e)
tags_met scales Stq e y t = meets t.q (cell_tag scales e)
tags_met scales Out e y t = meets t.a (output_tag scales y)
-- In a sum, or a difference, A meets the cell's tag.
tags_met scales Add e y t = meets t.a (cell_tag scales e)
tags_met scales Sub e y t = meets t.a (cell_tag scales e)
tags_met scales Adz e y t = meets t.a (cell_tag scales e)
tags_met scales Suz e y t = meets t.a (cell_tag scales e)
-- No others meet.
tags_met scales _ e y t = None

-- Which tags A and Q have after the order.
abbrev pub tags_after : Scaling → Order → (e y : ℕ) → Tags → Tags
-- A, or Q, has the cell's tag, and A that of the input register.
tags_after scales Cla e y t = record t { a = cell_tag scales e }
tags_after scales Clz e y t = record t { a = cell_tag scales e }
tags_after scales Ldq e y t = record t { q = cell_tag scales e }
tags_after scales Inp e y t = record t { a = input_tag scales y }
-- A's scale is more by the count, or less by it.
tags_after scales Lrs e y t = record { a = more t.a (count_of y); q = Raw }
tags_after scales Lls e y t = record { a = less t.a (count_of y); q = Raw }
tags_after scales Als e y t = record t { a = less t.a (count_of y) }
-- It is more by the cell's scale, or less by it.
tags_after scales Mpy e y t = record { a = product_tag t.a (cell_tag scales e); q = Raw }
tags_after scales Mpr e y t = record { a = product_tag t.a (cell_tag scales e); q = Raw }
tags_after scales Mpz e y t = record { a = product_tag t.a (cell_tag scales e); q = Raw }
tags_after scales Dvp e y t = record t { a = quotient_tag t.a (cell_tag scales e) }
-- Q holds an order.
tags_after scales Tsq e y t = record t { q = Raw }
-- The others change none.
tags_after scales _ e y t = t
