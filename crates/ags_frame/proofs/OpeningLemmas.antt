-- First lines: what stands in one is what is cut from it, and it opens one thing.
use Rattle.std.proofs.Common.{◌≡◌, ℕ, ◌<◌, ◌≤◌, List, [], ◌∷◌, length, get_or, refl, sym, ap, ◌∙◌, inl, inr, arith}
use Rattle.std.specs.List.{list_all}
use Rattle.std.proofs.lemmas.Bool.{cases_eq, cases_lt}
use Rattle.ags_text.specs.Field.{is_blank, AreBlanks, IsField, HasFields, next_field, behind_field}
use Rattle.ags_text.specs.Numeral.{IsDecimal}
use Rattle.ags_text.proofs.Deciding.{Decided, Found, decide_bool, decide_le, decide_eq, decide_list, number_found}
use Rattle.ags_text.proofs.FieldLaws.{standing_cut, cut_standing, number_field}
use Rattle.ags_frame.specs.declared.openings.Opening.{Opening}
use Rattle.ags_frame.specs.declared.openings.Opening.TheVariants.{Version, Another, Malformed}
use Rattle.ags_frame.specs.Opening.{IsVersion, IsNoVersion, Opens, OpensAnother, IsOpening, IsVersionField, IsOther, IsOpeningOf}

-- ---- the fields of a first line

version_has : (name line digits : List ℕ) → IsField name → IsField digits → IsVersionField name line digits → HasFields line (name ∷ digits ∷ [])
version_has name line digits named field is = (cut_standing line (name ∷ digits ∷ []) (named.some, (field.some, tt)) (is.named, (is.digits_are, is.ends))).1

has_version : (name line digits : List ℕ) → IsField name → IsField digits → HasFields line (name ∷ digits ∷ []) → IsVersionField name line digits
has_version name line digits named field has =
    let cut = standing_cut line (name ∷ digits ∷ []) (named, (field, tt)) has in
    record { named = cut.0; digits_are = cut.1.0; ends = cut.1.1 }

decimal_field : (digits : List ℕ) (number : ℕ) → IsDecimal 6 digits number → IsField digits
decimal_field digits number is = number_field 10 6 digits number (omega arith) is

pub opens_version : (name line : List ℕ) (version : ℕ) → IsField name → (is : Opens name version line) → IsVersionField name line is.digits
opens_version name line version named is = has_version name line is.digits named (decimal_field is.digits version is.spelled.is_decimal) is.fields

pub another_version : (name line : List ℕ) (latest : ℕ) → IsField name → (is : OpensAnother name latest line) → IsVersionField name line is.digits
another_version name line latest named is = has_version name line is.digits named (decimal_field is.digits is.version is.is_decimal) is.fields

-- ---- numbers of versions

-- the number of a version is that of no other
version_is_some : (latest version : ℕ) → IsVersion latest version → IsNoVersion latest version → ⊥
version_is_some latest version is (inl none) = let first = is.first in omega arith
version_is_some latest version is (inr past) = let last = is.last in omega arith

-- digits write one number
one_number : (digits others : List ℕ) (number other : ℕ) → digits ≡ others → IsDecimal 6 digits number → IsDecimal 6 others other → number ≡ other
one_number digits others number other same is also = is.value ∙ (rw same (sym also.value))

-- what is known of the number that digits write
pub not_other : (latest : ℕ) (digits : List ℕ) (number : ℕ) → IsDecimal 6 digits number → IsVersion latest number → IsOther latest digits → ⊥
not_other latest digits number is version other =
    let same : number ≡ other.0 = one_number digits digits number other.0 refl is other.1 in
    version_is_some latest other.0 (rw (← same) version) other.2

-- ---- what a first line opens

-- a line with the digits of a version is what the digits make it
pub opening_found : (name line : List ℕ) (latest : ℕ) (digits : List ℕ) (its : Opening) → IsField name → length line ≤ 512 → IsVersionField name line digits
    → IsOpeningOf latest digits its → IsOpening name latest line its
opening_found name line latest digits (Version version) named most form is = (
  is.0,
  record { most = most; digits = digits; spelled = is.1; fields = version_has name line digits named (decimal_field digits version is.1.is_decimal) form },
)
opening_found name line latest digits Another named most form is = record {
  most = most;
  version = is.0;
  digits = digits;
  is_decimal = is.1;
  other = is.2;
  fields = version_has name line digits named (decimal_field digits is.0 is.1) form;
}
opening_found name line latest digits Malformed named most form is = (
  λ version is_version opens.
      let same : digits ≡ opens.digits = sym form.digits_are ∙ (opens_version name line version named opens).digits_are in
      is.0 version is_version (rw same opens.spelled),
  λ opens.
      let same : digits ≡ opens.digits = sym form.digits_are ∙ (another_version name line latest named opens).digits_are in
      is.1 (opens.version, rw same opens.is_decimal, opens.other),
)

-- a line without them is malformed
pub opening_none : (name line : List ℕ) (latest : ℕ) → IsField name → ((digits : List ℕ) → IsVersionField name line digits → ⊥) → IsOpening name latest line Malformed
opening_none name line latest named none =
    (λ version is_version opens. none opens.digits (opens_version name line version named opens), λ opens. none opens.digits (another_version name line latest named opens))

-- a line that is too long is malformed
pub opening_long : (name line : List ℕ) (latest : ℕ) → 512 < length line → IsOpening name latest line Malformed
opening_long name line latest long = (λ version is_version opens. let most = opens.most in omega arith, λ opens. let most = opens.most in omega arith)

not_both : (name line : List ℕ) (latest version : ℕ) → IsField name → IsVersion latest version → Opens name version line → OpensAnother name latest line → ⊥
not_both name line latest version named is_version opens another =
    let same = sym (opens_version name line version named opens).digits_are ∙ (another_version name line latest named another).digits_are in
    not_other latest opens.digits version opens.spelled.is_decimal is_version (another.version, rw same another.is_decimal, another.other)

-- a line opens one thing
pub one_opening : (name : List ℕ) (latest : ℕ) (line : List ℕ) (opening other : Opening) → IsField name → IsOpening name latest line opening → IsOpening name latest line other
    → opening ≡ other
one_opening name latest line (Version version) (Version other) named is also =
    let same = sym (opens_version name line version named is.1).digits_are ∙ (opens_version name line other named also.1).digits_are in
    ap (λ (n : ℕ). Version n) (one_number is.1.digits also.1.digits version other same is.1.spelled.is_decimal also.1.spelled.is_decimal)
one_opening name latest line (Version version) Another named is also = absurd (not_both name line latest version named is.0 is.1 also)
one_opening name latest line (Version version) Malformed named is also = absurd (also.0 version is.0 is.1)
one_opening name latest line Another (Version other) named is also = absurd (not_both name line latest other named also.0 also.1 is)
one_opening name latest line Another Another named is also = refl
one_opening name latest line Another Malformed named is also = absurd (also.1 is)
one_opening name latest line Malformed (Version other) named is also = absurd (is.0 other also.0 also.1)
one_opening name latest line Malformed Another named is also = absurd (is.1 also)
one_opening name latest line Malformed Malformed named is also = refl

-- ---- each line opens something, or is malformed

-- what a first line is whose version has these digits
opening_of : (latest : ℕ) (digits : List ℕ) → (its : Opening) × IsOpeningOf latest digits its
opening_of latest digits =
    elim (number_found 10 6 digits) [
      | inr none ↦ (Malformed, (λ version is_version plain. none version plain.is_decimal, λ other. none other.0 other.1))
      | inl found ↦ elim (decide_eq found.0 0) [
        | inl zero ↦ (Another, (found.0, found.1, inl zero))
        | inr some ↦ elim (cases_lt latest found.0) [
          | inl past ↦ (Another, (found.0, found.1, inr past))
          | inr within ↦ elim (cases_eq (get_or digits 0 0) 48) [
            | inl padded ↦ (
              Malformed,
              (λ version is_version plain. plain.plain padded, λ other. not_other latest digits found.0 found.1 (record { first = omega arith; last = within }) other),
            )
            | inr plain ↦ (Version found.0, (record { first = omega arith; last = within }, record { is_decimal = found.1; plain = plain }))
          ]
        ]
      ]
    ]

-- a text is nothing but blanks, or isn't
decide_blanks : (text : List ℕ) → Decided (AreBlanks text)
decide_blanks text = decide_bool (list_all is_blank text)

-- a line has a version's field, or it has none
version_found : (name line : List ℕ) → Found (List ℕ) (IsVersionField name line)
version_found name line =
    elim (decide_list (next_field line) name) [
      | inr other ↦ inr (λ digits is. other is.named)
      | inl named ↦ elim (decide_blanks (behind_field (behind_field line))) [
        | inr marks ↦ inr (λ digits is. marks is.ends)
        | inl blank ↦ inl (next_field (behind_field line), record { named = named; digits_are = refl; ends = blank })
      ]
    ]

pub some_opening : (name : List ℕ) (latest : ℕ) (line : List ℕ) → IsField name → (opening : Opening) × IsOpening name latest line opening
some_opening name latest line named =
    elim (decide_le (length line) 512) [
      | inr long ↦ (Malformed, opening_long name line latest (omega (arith, long)))
      | inl most ↦ elim (version_found name line) [
        | inr none ↦ (Malformed, opening_none name line latest named none)
        | inl found ↦ let its = opening_of latest found.0 in (its.0, opening_found name line latest found.0 its.0 named most found.1 its.1)
      ]
    ]
