-- Scales, and the tags of rows, as fields of a line: each text writes one, or none.
use Rattle.std.proofs.Common.{◌≡◌, ℕ, Bool, true, false, List, [], ◌∷◌, get_or, refl, sym, ap, ◌∙◌, inl, inr, arith}
use Rattle.std.specs.Prelude.{ℤ, pos, negsuc, ◌≤◌, if◌then◌else◌, codes}
use Rattle.std.specs.Char.{digit_value}
use Rattle.std.proofs.lemmas.Bool.Decides.{nat_tests}
use Rattle.ags_text.specs.Field.{IsField}
use Rattle.ags_text.specs.Numeral.{IsDecimal}
use Rattle.ags_text.proofs.Deciding.{Found, decide_bool, decide_list}
use Rattle.ags_certtext.specs.Front.{IsOffset}
use Rattle.ags_certtext.specs.Spelling.{is_offset}
use Rattle.ags_certtext.proofs.FoundLemmas.{offset_found}
use Rattle.ags_certtext.proofs.FrontLemmas.{signed_field}
use Rattle.ags_tags.specs.Spelling.{IsScale, IsRowTag, is_scale}
use Rattle.ags_tags.specs.declared.tags.Tag.TheVariants.{Raw, Scale}
use Rattle.ags_tags.specs.declared.tags.RowTag.{RowTag}
use Rattle.ags_tags.specs.declared.tags.RowTag.TheVariants.{Any, Known}

-- ---- scales

-- a scale is among the differences of words' values, so that what is known of those is known of it
offset_scale : (number : ℤ) → is_scale number ≡ true → is_offset number ≡ true
offset_scale (pos n) is = grind (arith, nat_tests, is)
offset_scale (negsuc n) is = grind (arith, nat_tests, is)

as_offset : (text : List ℕ) (scale : ℤ) → IsScale text scale → IsOffset text scale
as_offset text scale is = record { is = is.is; within = offset_scale scale is.within }

pub one_scale : (text : List ℕ) (one other : ℤ) → IsScale text one → IsScale text other → one ≡ other
one_scale text one other is also =
    elim (offset_found text) [
      | inl found ↦ found.one one (as_offset text one is) ∙ sym (found.one other (as_offset text other also))
      | inr none ↦ absurd (none one (as_offset text one is))
    ]

pub scale_found : (text : List ℕ) → Found ℤ (IsScale text)
scale_found text =
    elim (offset_found text) [
      | inr none ↦ inr (λ scale is. none scale (as_offset text scale is))
      | inl found ↦ elim (decide_bool (is_scale found.it)) [
        | inl within ↦ inl (found.it, record { is = found.is.is; within = within })
        | inr over ↦ inr (λ scale is. over (sym (ap is_scale (found.one scale (as_offset text scale is))) ∙ is.within))
      ]
    ]

pub scale_field : (text : List ℕ) (scale : ℤ) → IsScale text scale → IsField text
scale_field text scale is = signed_field text scale is.is

-- ---- a text that begins with a letter writes no number

no_number : (b : ℕ) (text : List ℕ) (scale : ℤ) → (b ≡ 45 → ⊥) → 10 ≤ digit_value b → IsScale (b ∷ text) scale → ⊥
no_number b text scale other letter is = by_sign is.is.negative is.is.digits is.is.size is.is.whole is.is.is_decimal
  where
    by_sign : (negative : Bool) (digits : List ℕ) (size : ℕ) → b ∷ text ≡ (if negative then 45 ∷ digits else digits) → IsDecimal 6 digits size → ⊥
    by_sign true digits size whole decimal = other (cc)
    by_sign false digits size whole decimal = let first = (rw (← whole) at decimal).digits.1.0 in omega (arith, first, letter)

any_no_number : (scale : ℤ) → IsScale (codes "ANY") scale → ⊥
any_no_number scale is = no_number 65 (78 ∷ 89 ∷ []) scale (λ same. omega (arith, same)) (omega arith) is

raw_no_number : (scale : ℤ) → IsScale (codes "RAW") scale → ⊥
raw_no_number scale is = no_number 82 (65 ∷ 87 ∷ []) scale (λ same. omega (arith, same)) (omega arith) is

any_not_raw : codes "ANY" ≡ codes "RAW" → ⊥
any_not_raw same = absurd (omega (arith, ap (λ (l : List ℕ). get_or l 0 0) same))

-- ---- the tags of rows

pub row_tag_field : (text : List ℕ) (tag : RowTag) → IsRowTag text tag → IsField text
row_tag_field text Any is = rw is (record { some = omega arith; marks = refl })
row_tag_field text (Known Raw) is = rw is (record { some = omega arith; marks = refl })
row_tag_field text (Known (Scale scale)) is = scale_field text scale is

pub one_row_tag : (text : List ℕ) (one other : RowTag) → IsRowTag text one → IsRowTag text other → one ≡ other
one_row_tag text Any Any is also = refl
one_row_tag text Any (Known Raw) is also = absurd (any_not_raw (sym is ∙ also))
one_row_tag text Any (Known (Scale scale)) is also = absurd (any_no_number scale (rw is at also))
one_row_tag text (Known Raw) Any is also = absurd (any_not_raw (sym also ∙ is))
one_row_tag text (Known Raw) (Known Raw) is also = refl
one_row_tag text (Known Raw) (Known (Scale scale)) is also = absurd (raw_no_number scale (rw is at also))
one_row_tag text (Known (Scale scale)) Any is also = absurd (any_no_number scale (rw also at is))
one_row_tag text (Known (Scale scale)) (Known Raw) is also = absurd (raw_no_number scale (rw also at is))
one_row_tag text (Known (Scale scale)) (Known (Scale other)) is also = ap (λ (n : ℤ). Known (Scale n)) (one_scale text scale other is also)

-- a text that is neither word and writes no scale writes no tag
pub no_row_tag : (text : List ℕ) → (text ≡ codes "ANY" → ⊥) → (text ≡ codes "RAW" → ⊥) → ((scale : ℤ) → IsScale text scale → ⊥) → (tag : RowTag) → IsRowTag text tag → ⊥
no_row_tag text any raw none Any is = any is
no_row_tag text any raw none (Known Raw) is = raw is
no_row_tag text any raw none (Known (Scale scale)) is = none scale is

pub row_tag_found : (text : List ℕ) → Found RowTag (IsRowTag text)
row_tag_found text =
    elim (decide_list text (codes "ANY")) [
      | inl any ↦ inl (Any, any)
      | inr marks ↦ elim (decide_list text (codes "RAW")) [
        | inl raw ↦ inl (Known Raw, raw)
        | inr others ↦ elim (scale_found text) [
          | inl found ↦ inl (Known (Scale found.0), found.1)
          | inr none ↦ inr (no_row_tag text marks others none)
        ]
      ]
    ]
