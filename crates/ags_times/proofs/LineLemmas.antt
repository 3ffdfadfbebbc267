-- What a line states, by the fields that are cut from it; and that it states one thing at most.
use Rattle.std.proofs.Common.{◌≡◌, ℕ, ◌⊎◌, List, [], ◌∷◌, get_or, slice_index, Option, Some, None, IfSome, refl, sym, ap, ◌∙◌, inl, inr, arith}
use Rattle.std.specs.Prelude.{codes}
use Rattle.ags_text.specs.Field.{AreBlanks, IsField, next_field, behind_field}
use Rattle.ags_text.specs.Numeral.{IsDecimal}
use Rattle.ags_text.proofs.Deciding.{Decided, Found, decide_bool, decide_list, number_found}
use Rattle.ags_text.proofs.FieldLaws.{standing_cut, cut_standing, number_field, blanks_none, first_byte}
use Rattle.std.specs.List.{list_all}
use Rattle.ags_text.specs.Field.{is_blank}
use Rattle.ags_times.specs.declared.lines.RowBound.{RowBound}
use Rattle.ags_times.specs.declared.lines.TimesLine.{TimesLine}
use Rattle.ags_times.specs.declared.lines.TimesLine.TheVariants.{Bound, End}
use Rattle.ags_times.specs.Text.{times_name}
use Rattle.ags_times.specs.Spelling.{States}
use Rattle.ags_times.specs.Gathering.{AreBoundFields, AreFieldsOf}

-- what is so of what is found
pub also : {A : Type 0} {P Q : A → Type 0} (found : Option A) → ((x : A) → P x → Q x) → IfSome found P → IfSome found Q
also None more has = has
also (Some x) more has = more x has

-- ---- fields

time_field : IsField (codes "TIME")
time_field = record { some = omega arith; marks = refl }

end_field : IsField (codes "END")
end_field = record { some = omega arith; marks = refl }

pub name_field : IsField times_name
name_field = record { some = omega arith; marks = refl }

count_field : (text : List ℕ) (number : ℕ) → IsDecimal 5 text number → IsField text
count_field text number is = number_field 10 5 text number (omega arith) is

-- ---- from the fields that are cut to what a line states

pub fields_state : (line : List ℕ) (its : TimesLine) → AreFieldsOf (next_field line) (behind_field line) its → States line its
fields_state line (Bound its) (named, are) =
    let row = count_field (next_field (behind_field line)) its.row are.row_is in
    let bound = count_field (next_field (behind_field (behind_field line))) its.bound are.bound_is in
    record {
      row = next_field (behind_field line);
      bound = next_field (behind_field (behind_field line));
      row_is = are.row_is;
      bound_is = are.bound_is;
      fields = (cut_standing line (codes "TIME" ∷ next_field (behind_field line) ∷ next_field (behind_field (behind_field line)) ∷ [])
          (time_field.some, (row.some, (bound.some, tt))) (named, (refl, (refl, are.ends)))).1;
    }
fields_state line End (named, blank) = (cut_standing line (codes "END" ∷ []) (end_field.some, tt) (named, blank)).1

-- ---- and back

pub state_fields : (line : List ℕ) (its : TimesLine) → States line its → AreFieldsOf (next_field line) (behind_field line) its
state_fields line (Bound its) is =
    let cut = standing_cut line (codes "TIME" ∷ is.row ∷ is.bound ∷ [])
    (time_field, (count_field is.row its.row is.row_is, (count_field is.bound its.bound is.bound_is, tt))) is.fields in
    (cut.0, record { row_is = rw cut.1.0 is.row_is; bound_is = rw cut.1.1.0 is.bound_is; ends = cut.1.1.1 })
state_fields line End is = let cut = standing_cut line (codes "END" ∷ []) (end_field, tt) is in (cut.0, cut.1)

-- ---- a line states one thing at most

time_no_end : codes "TIME" ≡ codes "END" → ⊥
time_no_end same = absurd cc

same_number : (text : List ℕ) (one other : ℕ) → IsDecimal 5 text one → IsDecimal 5 text other → one ≡ other
same_number text one other is also = is.value ∙ sym also.value

same_bound : (its other : RowBound) → its.row ≡ other.row → its.bound ≡ other.bound → Bound its ≡ Bound other
same_bound its other row bound = rw (row, bound) refl

pub one_of_fields : (name text : List ℕ) (one other : TimesLine) → AreFieldsOf name text one → AreFieldsOf name text other → one ≡ other
one_of_fields name text (Bound its) (Bound other) is also =
    same_bound its other (same_number _ its.row other.row is.1.row_is also.1.row_is) (same_number _ its.bound other.bound is.1.bound_is also.1.bound_is)
one_of_fields name text End End is also = refl
one_of_fields name text (Bound its) End is also = absurd (time_no_end (sym is.0 ∙ also.0))
one_of_fields name text End (Bound other) is also = absurd (time_no_end (sym also.0 ∙ is.0))

pub one_statement : (line : List ℕ) (one other : TimesLine) → States line one → States line other → one ≡ other
one_statement line one other is also =
    one_of_fields (next_field line) (behind_field line) one other (state_fields line one is) (state_fields line other also)

-- ---- each line states something or nothing

blank_decided : (text : List ℕ) → Decided (AreBlanks text)
blank_decided text = decide_bool (list_all is_blank text)

module _ (name text : List ℕ) where
  bound_found : name ≡ codes "TIME" → Found TimesLine (AreFieldsOf name text)
  bound_found named = elim (number_found 10 5 (next_field text)) [
    | inr none ↦ inr (λ its is. no_row none its is)
    | inl row ↦ elim (number_found 10 5 (next_field (behind_field text))) [
      | inr none ↦ inr (λ its is. no_bound none its is)
      | inl bound ↦ elim (blank_decided (behind_field (behind_field text))) [
        | inr more ↦ inr (λ its is. no_end more its is)
        | inl ends ↦ inl (Bound (record { row = row.0; bound = bound.0 }), (named, record { row_is = row.1; bound_is = bound.1; ends = ends }))
      ]
    ]
  ]
    where
      no_row : ((number : ℕ) → IsDecimal 5 (next_field text) number → ⊥) → (its : TimesLine) → AreFieldsOf name text its → ⊥
      no_row none (Bound its) is = none its.row is.1.row_is
      no_row none End is = time_no_end (sym named ∙ is.0)

      no_bound : ((number : ℕ) → IsDecimal 5 (next_field (behind_field text)) number → ⊥) → (its : TimesLine) → AreFieldsOf name text its → ⊥
      no_bound none (Bound its) is = none its.bound is.1.bound_is
      no_bound none End is = time_no_end (sym named ∙ is.0)

      no_end : (AreBlanks (behind_field (behind_field text)) → ⊥) → (its : TimesLine) → AreFieldsOf name text its → ⊥
      no_end more (Bound its) is = more is.1.ends
      no_end more End is = time_no_end (sym named ∙ is.0)

  end_found : name ≡ codes "END" → Found TimesLine (AreFieldsOf name text)
  end_found named = elim (blank_decided text) [
    | inl ends ↦ inl (End, (named, ends))
    | inr more ↦ inr (λ its is. no_end more its is)
  ]
    where
      no_end : (AreBlanks text → ⊥) → (its : TimesLine) → AreFieldsOf name text its → ⊥
      no_end more (Bound its) is = time_no_end (sym is.0 ∙ named)
      no_end more End is = more is.1

  fields_found : Found TimesLine (AreFieldsOf name text)
  fields_found = elim (decide_list name (codes "TIME")) [
    | inl named ↦ bound_found named
    | inr other ↦ elim (decide_list name (codes "END")) [
      | inl named ↦ end_found named
      | inr another ↦ inr (λ its is. neither other another its is)
    ]
  ]
    where
      neither : (name ≡ codes "TIME" → ⊥) → (name ≡ codes "END" → ⊥) → (its : TimesLine) → AreFieldsOf name text its → ⊥
      neither other another (Bound its) is = other is.0
      neither other another End is = another is.0

pub some_statement : (line : List ℕ) → Found TimesLine (States line)
some_statement line = elim (fields_found (next_field line) (behind_field line)) [
  | inl found ↦ inl (found.0, fields_state line found.0 found.1)
  | inr none ↦ inr (λ its is. none its (state_fields line its is))
]

-- ---- an idle line states nothing

sign_first : (line : List ℕ) → slice_index line 0 ≡ 35 → get_or (next_field line) 0 0 ≡ 35
sign_first [] is = absurd (omega arith)
sign_first (b ∷ line) is = first_byte b line (rw is refl) ∙ is

some_first : (name text : List ℕ) (its : TimesLine) → AreFieldsOf name text its → (name ≡ [] → ⊥) × (get_or name 0 0 ≡ 35 → ⊥)
some_first name text (Bound its) is = (λ none. absurd cc, λ sign. absurd (omega (arith, sym (ap (λ (n : List ℕ). get_or n 0 0) is.0) ∙ sign)))
some_first name text End is = (λ none. absurd cc, λ sign. absurd (omega (arith, sym (ap (λ (n : List ℕ). get_or n 0 0) is.0) ∙ sign)))

pub idle_states_nothing : (line : List ℕ) (its : TimesLine) → AreBlanks line ⊎ (slice_index line 0 ≡ 35) → States line its → ⊥
idle_states_nothing line its (inl blank) states = (some_first (next_field line) (behind_field line) its (state_fields line its states)).0 (blanks_none line blank).0
idle_states_nothing line its (inr sign) states = (some_first (next_field line) (behind_field line) its (state_fields line its states)).1 (sign_first line sign)

-- ---- TIME without two counts states nothing

pub no_bound : (text : List ℕ) (its : TimesLine) → ((bound : RowBound) → AreBoundFields text bound → ⊥) → AreFieldsOf (codes "TIME") text its → ⊥
no_bound text (Bound its) none are = none its are.1
no_bound text End none are = time_no_end are.0
