-- What orders do to the tags of a run, and to those of a row that holds them.
use Rattle.std.proofs.Common.{◌≡◌, ℕ, refl, sym, ap, subst, ◌∙◌, ℤ}
use Rattle.std.specs.Prelude.{Option, Some, None, IfSome}
use Rattle.ags_isa.specs.declared.orders.Order.{Order}
use Rattle.ags_isa.specs.declared.orders.Order.TheVariants.{Abs, Add, Adz, Als, Axt, Cla, Clz, Com, Dly, Dvp, Inp, Ldq, Lls, Lrs, Mpr, Mpy, Mpz, Out, Sto, Stq, Sub, Suz, Tix, Tmi, Tov, Tra, Tsq}
use Rattle.ags_tags.specs.declared.tags.Tag.{Tag}
use Rattle.ags_tags.specs.declared.tags.Tag.TheVariants.{Raw, Scale}
use Rattle.ags_tags.specs.declared.tags.RowTag.{RowTag}
use Rattle.ags_tags.specs.declared.tags.RowTag.TheVariants.{Any, Known}
use Rattle.ags_tags.specs.declared.tags.RowTags.{RowTags}
use Rattle.ags_tags.specs.Tag.{Scaling, cell_tag, output_tag}
use Rattle.ags_scale.specs.Change.{Tags, raw, Met, meets, more, less, product_tag, quotient_tag, count_of, tags_met, tags_after}
use Rattle.ags_scale.specs.RowChange.{row_more, row_less, row_product, row_quotient, row_tags_met, row_tags_after, IsOfEquals, TakesTag, TakesTags, HoldsTag, HoldsRaw}

-- the tags of a row hold those of a run
abbrev pub HoldsTags : RowTags → Tags → Type 0
HoldsTags row tags = HoldsTag row.a tags.a × HoldsTag row.q tags.q

-- ---- one tag

more_held : (row : RowTag) (tag : Tag) (n : ℤ) → HoldsTag row tag → HoldsTag (row_more row n) (more tag n)
more_held Any tag n h = tt
more_held (Known Raw) tag n h = ap (λ (t : Tag). more t n) h
more_held (Known (Scale b)) tag n h = ap (λ (t : Tag). more t n) h

less_held : (row : RowTag) (tag : Tag) (n : ℤ) → HoldsTag row tag → HoldsTag (row_less row n) (less tag n)
less_held Any tag n h = tt
less_held (Known Raw) tag n h = ap (λ (t : Tag). less t n) h
less_held (Known (Scale b)) tag n h = ap (λ (t : Tag). less t n) h

product_held : (row : RowTag) (tag other : Tag) → HoldsTag row tag → HoldsTag (row_product row other) (product_tag tag other)
product_held row tag Raw h = refl
product_held row tag (Scale c) h = more_held row tag c h

quotient_held : (row : RowTag) (tag other : Tag) → HoldsTag row tag → HoldsTag (row_quotient row other) (quotient_tag tag other)
quotient_held row tag Raw h = refl
quotient_held row tag (Scale c) h = less_held row tag c h

-- a row's tag that is known holds itself alone
known_held : (row : RowTag) (tag other : Tag) → row ≡ Known other → HoldsTag row tag → tag ≡ other
known_held row tag other is h = subst (λ (r : RowTag). HoldsTag r tag) is h

-- a row's tag that takes another one holds what that holds
tag_taken : (target post : RowTag) (tag : Tag) → TakesTag target post → HoldsTag post tag → HoldsTag target tag
tag_taken Any post tag takes h = tt
tag_taken (Known known) post tag takes h = known_held post tag known takes h

pub tags_taken : (target post : RowTags) (tags : Tags) → TakesTags target post → HoldsTags post tags → HoldsTags target tags
tags_taken target post tags takes h = (tag_taken target.a post.a tags.a takes.0 h.0, tag_taken target.q post.q tags.q takes.1 h.1)

pub raw_held : (row : RowTags) → HoldsRaw row → HoldsTags row raw
raw_held row h = h

-- ---- the tables

-- the tags after an order are held by the row's after it
pub after_held : (scales : Scaling) (order : Order) (e y : ℕ) (row : RowTags) (tags : Tags) → HoldsTags row tags
    → HoldsTags (row_tags_after scales order e y row) (tags_after scales order e y tags)
after_held scales Abs e y row tags h = h
after_held scales Add e y row tags h = h
after_held scales Adz e y row tags h = h
after_held scales Als e y row tags h = (less_held row.a tags.a (count_of y) h.0, h.1)
after_held scales Axt e y row tags h = h
after_held scales Cla e y row tags h = (refl, h.1)
after_held scales Clz e y row tags h = (refl, h.1)
after_held scales Com e y row tags h = h
after_held scales Dly e y row tags h = h
after_held scales Dvp e y row tags h = (quotient_held row.a tags.a (cell_tag scales e) h.0, h.1)
after_held scales Inp e y row tags h = (refl, h.1)
after_held scales Ldq e y row tags h = (h.0, refl)
after_held scales Lls e y row tags h = (less_held row.a tags.a (count_of y) h.0, refl)
after_held scales Lrs e y row tags h = (more_held row.a tags.a (count_of y) h.0, refl)
after_held scales Mpr e y row tags h = (product_held row.a tags.a (cell_tag scales e) h.0, refl)
after_held scales Mpy e y row tags h = (product_held row.a tags.a (cell_tag scales e) h.0, refl)
after_held scales Mpz e y row tags h = (product_held row.a tags.a (cell_tag scales e) h.0, refl)
after_held scales Out e y row tags h = h
after_held scales Sto e y row tags h = h
after_held scales Stq e y row tags h = h
after_held scales Sub e y row tags h = h
after_held scales Suz e y row tags h = h
after_held scales Tix e y row tags h = h
after_held scales Tmi e y row tags h = h
after_held scales Tov e y row tags h = h
after_held scales Tra e y row tags h = h
after_held scales Tsq e y row tags h = (h.0, refl)

none_meet : (two : Met) → ◌≡◌ {A = Option Met} None (Some two) → ⊥
none_meet two same = cc

two_equal : (row : RowTag) (left right : Tag) (two : Met) → row ≡ Known right → HoldsTag row left → meets left right ≡ Some two → two.left ≡ two.right
two_equal row left right two is h same =
    let first : left ≡ two.left = cc in
    let second : right ≡ two.right = cc in
    sym first ∙ known_held row left right is h ∙ second

-- where those of the row that meet are equal, those of the run are
pub met_equal : (scales : Scaling) (order : Order) (e y : ℕ) (row : RowTags) (tags : Tags) → HoldsTags row tags
    → IfSome (row_tags_met scales order e y row) IsOfEquals → (two : Met) → tags_met scales order e y tags ≡ Some two → two.left ≡ two.right
met_equal scales Abs e y row tags h equal two same = absurd (none_meet two same)
met_equal scales Add e y row tags h equal two same = two_equal row.a tags.a (cell_tag scales e) two equal h.0 same
met_equal scales Adz e y row tags h equal two same = two_equal row.a tags.a (cell_tag scales e) two equal h.0 same
met_equal scales Als e y row tags h equal two same = absurd (none_meet two same)
met_equal scales Axt e y row tags h equal two same = absurd (none_meet two same)
met_equal scales Cla e y row tags h equal two same = absurd (none_meet two same)
met_equal scales Clz e y row tags h equal two same = absurd (none_meet two same)
met_equal scales Com e y row tags h equal two same = absurd (none_meet two same)
met_equal scales Dly e y row tags h equal two same = absurd (none_meet two same)
met_equal scales Dvp e y row tags h equal two same = absurd (none_meet two same)
met_equal scales Inp e y row tags h equal two same = absurd (none_meet two same)
met_equal scales Ldq e y row tags h equal two same = absurd (none_meet two same)
met_equal scales Lls e y row tags h equal two same = absurd (none_meet two same)
met_equal scales Lrs e y row tags h equal two same = absurd (none_meet two same)
met_equal scales Mpr e y row tags h equal two same = absurd (none_meet two same)
met_equal scales Mpy e y row tags h equal two same = absurd (none_meet two same)
met_equal scales Mpz e y row tags h equal two same = absurd (none_meet two same)
met_equal scales Out e y row tags h equal two same = two_equal row.a tags.a (output_tag scales y) two equal h.0 same
met_equal scales Sto e y row tags h equal two same = two_equal row.a tags.a (cell_tag scales e) two equal h.0 same
met_equal scales Stq e y row tags h equal two same = two_equal row.q tags.q (cell_tag scales e) two equal h.1 same
met_equal scales Sub e y row tags h equal two same = two_equal row.a tags.a (cell_tag scales e) two equal h.0 same
met_equal scales Suz e y row tags h equal two same = two_equal row.a tags.a (cell_tag scales e) two equal h.0 same
met_equal scales Tix e y row tags h equal two same = absurd (none_meet two same)
met_equal scales Tmi e y row tags h equal two same = absurd (none_meet two same)
met_equal scales Tov e y row tags h equal two same = absurd (none_meet two same)
met_equal scales Tra e y row tags h equal two same = absurd (none_meet two same)
met_equal scales Tsq e y row tags h equal two same = absurd (none_meet two same)
