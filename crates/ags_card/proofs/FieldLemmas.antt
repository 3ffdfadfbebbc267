-- The fields of a line: each line has some, and they are those that are cut from it.
use Rattle.std.proofs.Common.{◌≡◌, ℕ, zero, suc, ◌<◌, ◌≤◌, not, List, [], ◌∷◌, ◌++◌, length, take, drop, refl, sym, ap, ◌∙◌, inl, inr, length-drop, arith}
use Rattle.std.specs.List.{position_or_len, prefix_len, list_all}
use Rattle.std.proofs.lemmas.Bool.{and_parts, true≢false}
use Rattle.std.proofs.lemmas.List.{length-append, take-append-drop}
use Rattle.std.proofs.lemmas.List.Folds.{list_all-append}
use Rattle.ags_text.specs.Field.{is_blank, AreBlanks, IsField, AreFields, AreSome, leading_field, behind_leading_field, behind_blanks, next_field, behind_field, AreCut}
use Rattle.ags_text.proofs.FieldLaws.{standing_behind, cut_behind, blanks_end, none_blank}
use Rattle.ags_card.specs.Spelling.{HasCardFields}
use Rattle.ags_card.proofs.ByteLemmas.{list_cases}
use Rattle.ags_card.specs.Reading.{symbol_field, operation_field, operand_field}

-- what stands after a field is shorter than the text
behind_field_shorter : (text : List ℕ) → 0 < length (next_field text) → length (behind_field text) < length text
unfolding next_field behind_field leading_field behind_leading_field behind_blanks
behind_field_shorter text some =
    let blanks = prefix_len is_blank text in
    let rest = drop blanks text in
    let n = position_or_len is_blank rest in
    omega (arith, length-drop blanks text, ap length (take-append-drop n rest), length-append (take n rest) (drop n rest))

-- the fields of a text
record FieldsOf (text : List ℕ) : Type 0 where
  fields : List (List ℕ)
  some : AreSome fields
  cut : AreCut fields text

none_short : (text : List ℕ) → length text ≤ 0 → text ≡ []
none_short [] short = refl
none_short (b ∷ text) short = absurd (omega arith)

fields_of : (n : ℕ) (text : List ℕ) → length text ≤ n → FieldsOf text
fields_of zero text short = rw (none_short text short) (record { fields = []; some = tt; cut = refl })
fields_of (suc n) text short =
    elim (list_cases (next_field text)) [
      | inl none ↦ record { fields = []; some = tt; cut = none_blank text none }
      | inr some ↦
          let rest = fields_of n (behind_field text) (omega (arith, behind_field_shorter text some)) in
          record { fields = next_field text ∷ rest.fields; some = (some, rest.some); cut = (refl, rest.cut) }
    ]

-- the fields of a card, as they stand and as they are cut
pub record CardFields (line : List ℕ) : Type 0 where
  pub fields : List (List ℕ)
  pub has : HasCardFields line (symbol_field line) fields
  pub are : AreFields fields
  pub cut : AreCut fields (behind_leading_field line)

fields_are : (fields : List (List ℕ)) (text : List ℕ) → AreSome fields → AreCut fields text → AreFields fields
fields_are fields text some cut = (Rattle.ags_text.proofs.FieldLaws.cut_standing text fields some cut).0

-- each line has fields
pub card_fields : (line : List ℕ) → CardFields line
card_fields line =
    let of = fields_of (length (behind_leading_field line)) (behind_leading_field line) (omega arith) in
    let stand = cut_behind line of.fields of.some of.cut in
    let are = fields_are of.fields (behind_leading_field line) of.some of.cut in
    record {
      fields = of.fields;
      has = record { behind = behind_leading_field line; whole = stand.1; marks = stand.0; are = are; further = stand.2 };
      are = are;
      cut = of.cut;
    }

-- the first field and the second, and nothing where there is none
abbrev pub first_field : List (List ℕ) → List ℕ
first_field [] = []
first_field (field ∷ fields) = field

abbrev pub second_field : List (List ℕ) → List ℕ
second_field [] = []
second_field (field ∷ fields) = first_field fields

-- the operation and the operand are the first and the second of the fields that are cut
pub record AreRead (line : List ℕ) (fields : List (List ℕ)) : Type 0 where
  pub operation : operation_field line ≡ first_field fields
  pub operand : operand_field line ≡ second_field fields

blanks_none : (text : List ℕ) → AreBlanks text → next_field text ≡ []
blanks_none text are = (blanks_end text are).0

no_field_of_nothing : next_field [] ≡ []
no_field_of_nothing = blanks_none [] refl

pub cut_read : (line : List ℕ) (fields : List (List ℕ)) → AreCut fields (behind_leading_field line) → AreRead line fields
cut_read line [] cut =
    let end = blanks_end (behind_leading_field line) cut in
    record { operation = end.0; operand = rw (end.1) no_field_of_nothing }
cut_read line (operation ∷ []) cut = record { operation = cut.0; operand = blanks_none (behind_field (behind_leading_field line)) cut.1 }
cut_read line (operation ∷ operand ∷ fields) cut = record { operation = cut.0; operand = cut.1.0 }

-- the fields that stand in a line are those that are read
pub record StandsRead (line symbol : List ℕ) (fields : List (List ℕ)) : Type 0 where
  pub symbol_is : symbol_field line ≡ symbol
  pub read : AreRead line fields

pub fields_read : (line symbol : List ℕ) (fields : List (List ℕ)) → HasCardFields line symbol fields → StandsRead line symbol fields
fields_read line symbol fields has =
    let cut = standing_behind line symbol has.behind fields has.marks has.are has.whole has.further in
    record { symbol_is = cut.0; read = cut_read line fields cut.1 }

-- a line with an operation is not all blanks
not_both : (field : List ℕ) → IsField field → AreBlanks field → ⊥
not_both [] is blanks = absurd (omega (arith, is.some))
not_both (b ∷ field) is blanks =
    let marks = and_parts (not (is_blank b)) (list_all (λ x. not (is_blank x)) field) is.marks in
    let blank = and_parts (is_blank b) (list_all is_blank field) blanks in
    true≢false (sym marks.0 ∙ ap not blank.0)

blank_parts : (left right : List ℕ) → AreBlanks (left ++ right) → AreBlanks left × AreBlanks right
blank_parts left right all = let parts = and_parts _ _ (sym (list_all-append is_blank left right) ∙ all) in (parts.0, parts.1)

pub not_blank : (line symbol field : List ℕ) (fields : List (List ℕ)) → HasCardFields line symbol (field ∷ fields) → AreBlanks line → ⊥
not_blank line symbol field fields has all =
    let behind = (blank_parts symbol has.behind (rw (has.whole) at all)).1 in
    let rest = (blank_parts has.further.0 (field ++ has.further.1) (rw (has.further.3) at behind)).1 in
    not_both field has.are.0 (blank_parts field has.further.1 rest).0
