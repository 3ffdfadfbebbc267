-- The fields that are cut from a text.
use Rattle.std.proofs.Common.{◌≡◌, ℕ, zero, suc, ◌<◌, ◌≤◌, true, false, ◌==◌, List, [], ◌∷◌, length, take, drop, Some, None, refl, sym, ap, ◌∙◌, inl, inr, ◌⊎◌, length-drop, arith}
use Rattle.std.specs.List.{position_or_len, prefix_len, list_all}
use Rattle.std.proofs.lemmas.Bool.{cases_Bool}
use Rattle.std.proofs.lemmas.Bool.Decides.{nat_tests}
use Rattle.std.proofs.lemmas.List.{length-append, take-append-drop}
use Rattle.ags_text.specs.Field.{is_blank, leading_field, behind_leading_field, behind_blanks, next_field, behind_field}
use Rattle.ags_text.proofs.FieldLaws.{blanks_none, none_blank}
use Rattle.ags_script.specs.Operand.{fields_up_to, fields_of, octal_of, subject_named}
use Rattle.ags_script.specs.Reading.{has_no_field, only_field, both_numbers, word_operand, word_operands, subject_command, show_command}
use Rattle.ags_script.proofs.NameLemmas.{no_subject}

pub list_cases : (text : List ℕ) → (text ≡ []) ⊎ (0 < length text)
list_cases [] = inl refl
list_cases (b ∷ text) = inr (omega arith)

-- what stands after a field is shorter than the text
pub behind_shorter : (text : List ℕ) → 0 < length (next_field text) → length (behind_field text) < length text
unfolding next_field behind_field leading_field behind_leading_field behind_blanks
behind_shorter text some =
    let blanks = prefix_len is_blank text in
    let rest = drop blanks text in
    let n = position_or_len is_blank rest in
    omega (arith, length-drop blanks text, ap length (take-append-drop n rest), length-append (take n rest) (drop n rest))

pub none_short : (text : List ℕ) → length text ≤ 0 → text ≡ []
none_short [] short = refl
none_short (b ∷ text) short = absurd (omega arith)

-- nothing has no field
pub nothing_next : next_field [] ≡ []
nothing_next = (blanks_none [] refl).0

is_some : (text : List ℕ) → 0 < length text → (length text == 0) ≡ false
is_some text some = grind (arith, nat_tests)

pub empty_text : (text : List ℕ) → (length text == 0) ≡ true → text ≡ []
empty_text text is = elim (list_cases text) [ inl none ↦ none | inr some ↦ let no : (length text == 0) ≡ false = is_some text some in absurd (cc) ]

pub some_text : (text : List ℕ) → (length text == 0) ≡ false → 0 < length text
some_text text is = elim (list_cases text) [ inl none ↦ let no : (length text == 0) ≡ true = rw none refl in absurd (cc) | inr some ↦ some ]

up_to_none : (n : ℕ) (text : List ℕ) → next_field text ≡ [] → fields_up_to n text ≡ []
unfolding fields_up_to
up_to_none zero text none = refl
up_to_none (suc n) text none = rw none refl

up_to_more : (n : ℕ) (text : List ℕ) → 0 < length (next_field text) → fields_up_to (suc n) text ≡ next_field text ∷ fields_up_to n (behind_field text)
unfolding fields_up_to
up_to_more n text some = rw (is_some (next_field text) some) refl

-- it doesn't matter how many more may come
up_to_any : (n m : ℕ) (text : List ℕ) → length text ≤ n → length text ≤ m → fields_up_to n text ≡ fields_up_to m text
up_to_any zero m text few many =
    let none : next_field text ≡ [] = rw (none_short text few) nothing_next in
    up_to_none zero text none ∙ sym (up_to_none m text none)
up_to_any (suc n) zero text few many =
    let none : next_field text ≡ [] = rw (none_short text many) nothing_next in
    up_to_none (suc n) text none ∙ sym (up_to_none zero text none)
up_to_any (suc n) (suc m) text few many =
    elim (list_cases (next_field text)) [
      | inl none ↦ up_to_none (suc n) text none ∙ sym (up_to_none (suc m) text none)
      | inr some ↦
          let shorter : length (behind_field text) < length text = behind_shorter text some in
          up_to_more n text some
          ∙ ap (λ (rest : List (List ℕ)). next_field text ∷ rest) (up_to_any n m (behind_field text) (omega arith) (omega arith))
          ∙ sym (up_to_more m text some)
    ]

pub fields_none : (text : List ℕ) → next_field text ≡ [] → fields_of text ≡ []
unfolding fields_of
fields_none text none = up_to_none (length text) text none

some_bytes : (n : ℕ) (text : List ℕ) → 0 < length (next_field text) → n ≡ length text → fields_up_to n text ≡ next_field text ∷ fields_up_to (length (behind_field text)) (behind_field text)
some_bytes zero text some is = let shorter : length (behind_field text) < length text = behind_shorter text some in absurd (omega arith)
some_bytes (suc n) text some is =
    let shorter : length (behind_field text) < length text = behind_shorter text some in
    up_to_more n text some
    ∙ ap (λ (rest : List (List ℕ)). next_field text ∷ rest) (up_to_any n (length (behind_field text)) (behind_field text) (omega arith) (omega arith))

pub fields_more : (text : List ℕ) → 0 < length (next_field text) → fields_of text ≡ next_field text ∷ fields_of (behind_field text)
unfolding fields_of
fields_more text some = some_bytes (length text) text some refl

-- blanks are what has no field
pub blanks_cut : (text : List ℕ) → list_all is_blank text ≡ has_no_field (fields_of text)
blanks_cut text =
    elim (list_cases (next_field text)) [
      | inl none ↦ rw (fields_none text none) (none_blank text none)
      | inr some ↦
          elim (cases_Bool (list_all is_blank text)) [
            | inl blank ↦ let none : next_field text ≡ [] = (blanks_none text blank).0 in absurd (omega (arith, ap length none))
            | inr marks ↦ rw (fields_more text some) marks
          ]
    ]

no_field : (fields : List (List ℕ)) → has_no_field fields ≡ true → fields ≡ []
no_field [] is = refl
no_field (field ∷ others) is = absurd cc

pub none_left : (text : List ℕ) → has_no_field (fields_of text) ≡ true → fields_of text ≡ []
none_left text is = no_field (fields_of text) is

pub some_left : (text : List ℕ) → has_no_field (fields_of text) ≡ false → 0 < length (next_field text)
some_left text is =
    elim (list_cases (next_field text)) [
      | inl none ↦ let no : has_no_field (fields_of text) ≡ true = rw (fields_none text none) refl in absurd (cc)
      | inr some ↦ some
    ]

-- ---- operands

pub only_none : (text : List ℕ) → next_field text ≡ [] → only_field (fields_of text) ≡ None
only_none text none = rw (fields_none text none) refl

pub only_one : (text : List ℕ) → 0 < length (next_field text) → list_all is_blank (behind_field text) ≡ true → only_field (fields_of text) ≡ Some (next_field text)
only_one text some blank =
    let none : fields_of (behind_field text) ≡ [] = none_left (behind_field text) (sym (blanks_cut (behind_field text)) ∙ blank) in
    rw (fields_more text some, none) refl

two_fields : (field : List ℕ) (others : List (List ℕ)) → has_no_field others ≡ false → only_field (field ∷ others) ≡ None
two_fields field [] is = absurd cc
two_fields field (other ∷ others) is = refl

pub only_more : (text : List ℕ) → 0 < length (next_field text) → list_all is_blank (behind_field text) ≡ false → only_field (fields_of text) ≡ None
only_more text some marks = rw (fields_more text some) (two_fields (next_field text) (fields_of (behind_field text)) (sym (blanks_cut (behind_field text)) ∙ marks))

no_address : octal_of 4 [] ≡ None
unfolding octal_of
no_address = refl

pub word_cut : (text : List ℕ) → word_operands (fields_of text) ≡ both_numbers (octal_of 4 (next_field text)) (word_operand (fields_of (behind_field text)))
word_cut text =
    elim (list_cases (next_field text)) [
      | inl none ↦ rw (fields_none text none, none, no_address) refl
      | inr some ↦ rw (fields_more text some) refl
    ]

pub show_cut : (text : List ℕ) → show_command (fields_of text) ≡ subject_command (subject_named (next_field text)) (fields_of (behind_field text))
show_cut text =
    elim (list_cases (next_field text)) [
      | inl none ↦ rw (fields_none text none, none, no_subject) refl
      | inr some ↦ rw (fields_more text some) refl
    ]
