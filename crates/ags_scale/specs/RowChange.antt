-- What orders do to the tags that a row states of A and Q, and which tags a row holds.
use Rattle.std.specs.Prelude.{◌≡◌, ℕ, ℤ, ◌+ℤ◌, ◌-ℤ◌, Option, Some, None, IfSome, Result, Ok, Err, ⊤}
use Rattle.ags_isa.specs.declared.orders.Order.{Order}
use Rattle.ags_isa.specs.declared.orders.Order.TheVariants.{Add, Adz, Als, Cla, Clz, Dvp, Inp, Ldq, Lls, Lrs, Mpr, Mpy, Mpz, Out, Sto, Stq, Sub, Suz, Tsq}
use Rattle.ags_tags.specs.declared.tags.Tag.{Tag}
use Rattle.ags_tags.specs.declared.tags.Tag.TheVariants.{Raw, Scale}
use Rattle.ags_tags.specs.declared.tags.RowTag.{RowTag}
use Rattle.ags_tags.specs.declared.tags.RowTag.TheVariants.{Any, Known}
use Rattle.ags_tags.specs.declared.tags.RowTags.{RowTags}
use Rattle.ags_tags.specs.Tag.{Scaling, cell_tag, input_tag, output_tag}
use Rattle.ags_scale.specs.Change.{tag_of, count_of}
use Rattle.ags_scale.specs.declared.answers.Meeting.{Meeting}

-- ---- scales

-- the row's tag whose scale is more by a number, or less: raw stays raw, and any stays any
abbrev pub row_more : RowTag → ℤ → RowTag
row_more Any n = Any
row_more (Known Raw) n = Known Raw
row_more (Known (Scale b)) n = Known (tag_of (b +ℤ n))

abbrev pub row_less : RowTag → ℤ → RowTag
row_less Any n = Any
row_less (Known Raw) n = Known Raw
row_less (Known (Scale b)) n = Known (tag_of (b -ℤ n))

-- the row's tag of a product, or of a quotient: with a raw part it is raw, and else with any part it is any
abbrev pub row_product : RowTag → Tag → RowTag
row_product tag Raw = Known Raw
row_product tag (Scale c) = row_more tag c

abbrev pub row_quotient : RowTag → Tag → RowTag
row_quotient tag Raw = Known Raw
row_quotient tag (Scale c) = row_less tag c

-- ---- the tables: y is the address of the order, and e the one that it acts on

abbrev pub row_meets : RowTag → Tag → Option Meeting
row_meets left right = Some (record { left = left; right = right })

-- Which tags meet.
abbrev pub row_tags_met : Scaling → Order → (e y : ℕ) → RowTags → Option Meeting
row_tags_met scales Sto e y t = row_meets t.a (cell_tag scales e)
row_tags_met scales Stq e y t = row_meets t.q (cell_tag scales e)
row_tags_met scales Out e y t = row_meets t.a (output_tag scales y)
row_tags_met scales Add e y t = row_meets t.a (cell_tag scales e)
row_tags_met scales Sub e y t = row_meets t.a (cell_tag scales e)
row_tags_met scales Adz e y t = row_meets t.a (cell_tag scales e)
row_tags_met scales Suz e y t = row_meets t.a (cell_tag scales e)
row_tags_met scales _ e y t = None

-- Which tags A and Q have after the order.
abbrev pub row_tags_after : Scaling → Order → (e y : ℕ) → RowTags → RowTags
row_tags_after scales Cla e y t = record t { a = Known (cell_tag scales e) }
row_tags_after scales Clz e y t = record t { a = Known (cell_tag scales e) }
row_tags_after scales Ldq e y t = record t { q = Known (cell_tag scales e) }
row_tags_after scales Inp e y t = record t { a = Known (input_tag scales y) }
row_tags_after scales Lrs e y t = record { a = row_more t.a (count_of y); q = Known Raw }
row_tags_after scales Lls e y t = record { a = row_less t.a (count_of y); q = Known Raw }
row_tags_after scales Als e y t = record t { a = row_less t.a (count_of y) }
row_tags_after scales Mpy e y t = record { a = row_product t.a (cell_tag scales e); q = Known Raw }
row_tags_after scales Mpr e y t = record { a = row_product t.a (cell_tag scales e); q = Known Raw }
row_tags_after scales Mpz e y t = record { a = row_product t.a (cell_tag scales e); q = Known Raw }
row_tags_after scales Dvp e y t = record t { a = row_quotient t.a (cell_tag scales e) }
row_tags_after scales Tsq e y t = record t { q = Known Raw }
row_tags_after scales _ e y t = t

-- a meeting is one of equals where the row's tag is known and is the other one
abbrev pub IsOfEquals : Meeting → Type 0
IsOfEquals two = two.left ≡ Known two.right

-- What comes of a row's tags by an order: other tags; or two that meet and aren't equal.
abbrev pub DoesToTags : Scaling → Order → (e y : ℕ) → RowTags → Result RowTags Meeting → Type 0
DoesToTags scales order e y t (Ok after) = IfSome (row_tags_met scales order e y t) IsOfEquals × (after ≡ row_tags_after scales order e y t)
DoesToTags scales order e y t (Err two) = (row_tags_met scales order e y t ≡ Some two) × (¬ IsOfEquals two)

-- ---- holding

-- a row's tag takes that of a post: it is any, or the post's
abbrev pub TakesTag : RowTag → RowTag → Type 0
TakesTag Any tag = ⊤
TakesTag (Known known) tag = tag ≡ Known known

abbrev pub TakesTags : RowTags → RowTags → Type 0
TakesTags row tags = TakesTag row.a tags.a × TakesTag row.q tags.q

-- it holds a tag: it is any, or this one
abbrev pub HoldsTag : RowTag → Tag → Type 0
HoldsTag Any tag = ⊤
HoldsTag (Known known) tag = tag ≡ known

-- a row's tags hold raw for A and Q
abbrev pub HoldsRaw : RowTags → Type 0
HoldsRaw row = HoldsTag row.a Raw × HoldsTag row.q Raw
