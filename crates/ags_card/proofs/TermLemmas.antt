-- The terms of a text, cut at its first sign.
use Rattle.std.proofs.Common.{◌≡◌, ℕ, ◌-◌, ◌<◌, ◌≤◌, ◌==◌, Bool, true, false, not, List, [], ◌∷◌, ◌++◌, length, take, drop, Option, Some, None, refl, sym, ap, ◌∙◌, inl, inr, one-add, append_assoc, position, unwrap_or, length-drop, arith}
use Rattle.std.specs.Option.{option_map}
use Rattle.std.specs.List.{position_or_len, prefix_len}
use Rattle.std.specs.Str.Parse.{starts_with_minus}
use Rattle.std.proofs.lemmas.Bool.{cases_Bool, cases_lt, lt-ltb, le-ltb}
use Rattle.std.proofs.lemmas.List.Sums.{prefix_len-le-length}
use Rattle.std.proofs.lemmas.List.{append-nil, take_all, take-append-drop, length-append}
use Rattle.std.proofs.lemmas.Bool.Decides.{nat_tests}
use Rattle.ags_text.specs.Field.{is_blank, leading_field, behind_leading_field, behind_blanks, next_field, behind_field}
use Rattle.ags_text.specs.Numeral.{number_of}
use Rattle.ags_card.specs.declared.terms.Atom.{Atom}
use Rattle.ags_card.specs.declared.terms.Term.{Term}
use Rattle.ags_card.specs.Symbol.{is_symbol}
use Rattle.ags_card.specs.Reading.{atom_reading, is_sign, with_term, terms_reading, is_indexed, without_index, operand_field}

-- the first place that passes, or the length
pub position_or_len_is : (p : ℕ → Bool) (text : List ℕ) → unwrap_or (position p text) (length text) ≡ position_or_len p text
position_or_len_is p text =
    let most : position_or_len p text ≤ length text = prefix_len-le-length (λ b. not (p b)) text in
    elim (cases_lt (position_or_len p text) (length text)) [
      | inl lt ↦ rw (lt-ltb _ _ lt) refl
      | inr le ↦ rw (le-ltb _ _ le) (omega arith)
    ]

-- the terms of a text whose first one has these bytes, with what stands after them
abbrev pub terms_cut : Bool → List ℕ → List ℕ → Option (List Term)
terms_cut minus front [] = with_term minus (atom_reading front) (Some [])
terms_cut minus front (b ∷ behind) = with_term minus (atom_reading front) (terms_reading (b == 45) [] behind)

-- the length of the front of a text before its first sign
abbrev pub front_len : List ℕ → ℕ
front_len text = position_or_len is_sign text

cut_before : (minus : Bool) (before text : List ℕ) → terms_reading minus before text ≡ terms_cut minus (before ++ take (front_len text) text) (drop (front_len text) text)
unfolding terms_reading
cut_before minus before [] = rw (append-nil before) refl
cut_before minus before (b ∷ text) =
    elim (cases_Bool (is_sign b)) [
      | inl sign ↦ rw (sign, append-nil before) refl
      | inr other ↦
          let rest = cut_before minus (before ++ b ∷ []) text in
          rw (other, one-add (front_len text)) (rest ∙ ap (λ front. terms_cut minus front (drop (front_len text) text)) (append_assoc before (b ∷ []) (take (front_len text) text)))
    ]

pub terms_reading-cut : (minus : Bool) (text : List ℕ) → terms_reading minus [] text ≡ terms_cut minus (take (front_len text) text) (drop (front_len text) text)
terms_reading-cut minus text = cut_before minus [] text

-- terms before what a text has
abbrev pub prepended : List Term → Option (List Term) → Option (List Term)
prepended items terms = option_map (λ others. items ++ others) terms

-- no text of nothing is a term
pub none_empty : (front : List ℕ) (atom : Atom) → atom_reading front ≡ Some atom → 0 < length front
unfolding atom_reading is_symbol number_of
none_empty [] atom is = let none : ◌≡◌ {A = Option Atom} None (Some atom) = is in absurd (cc)
none_empty (b ∷ front) atom is = omega arith

prepended_term : (items : List Term) (term : Term) (terms : Option (List Term)) → prepended (items ++ term ∷ []) terms ≡ prepended items (with_term term.minus (Some term.atom) terms)
prepended_term items term None = refl
prepended_term items term (Some terms) = ap Some (append_assoc items (term ∷ []) terms)

-- a term is none, and so the terms are
pub read_none : (items : List Term) (minus : Bool) (text front behind : List ℕ) (whole : Option (List Term)) → prepended items (terms_reading minus [] text) ≡ whole
    → front ≡ take (front_len text) text → behind ≡ drop (front_len text) text → atom_reading front ≡ None → None ≡ whole
read_none items minus text front behind whole so front_is behind_is none =
    let cut : terms_reading minus [] text ≡ terms_cut minus front behind = rw (front_is, behind_is) (terms_reading-cut minus text) in
    sym (ap (prepended items) (nothing minus front behind none)) ∙ sym (ap (prepended items) cut) ∙ so
  where
    nothing : (minus : Bool) (front behind : List ℕ) → atom_reading front ≡ None → terms_cut minus front behind ≡ None
    nothing minus front [] is = rw is refl
    nothing minus front (b ∷ behind) is = rw is refl

-- the last term
pub read_last : (items : List Term) (minus : Bool) (text front behind : List ℕ) (atom : Atom) (whole : Option (List Term)) → prepended items (terms_reading minus [] text) ≡ whole
    → front ≡ take (front_len text) text → behind ≡ drop (front_len text) text → atom_reading front ≡ Some atom → behind ≡ []
    → Some (items ++ record { minus = minus; atom = atom } ∷ []) ≡ whole
read_last items minus text front behind atom whole so front_is behind_is some last =
    let cut : terms_reading minus [] text ≡ terms_cut minus front behind = rw (front_is, behind_is) (terms_reading-cut minus text) in
    let one : terms_cut minus front behind ≡ Some (record { minus = minus; atom = atom } ∷ []) = rw (last, some) refl in
    sym (ap (prepended items) one) ∙ sym (ap (prepended items) cut) ∙ so

-- a term with others after it
pub read_more : (items : List Term) (minus : Bool) (text front behind : List ℕ) (atom : Atom) (whole : Option (List Term)) → prepended items (terms_reading minus [] text) ≡ whole
    → front ≡ take (front_len text) text → behind ≡ drop (front_len text) text → atom_reading front ≡ Some atom → 0 < length behind
    → prepended (items ++ record { minus = minus; atom = atom } ∷ []) (terms_reading (starts_with_minus behind) [] (drop 1 behind)) ≡ whole
read_more items minus text front behind atom whole so front_is behind_is some more =
    let cut : terms_reading minus [] text ≡ terms_cut minus front behind = rw (front_is, behind_is) (terms_reading-cut minus text) in
    let one : terms_cut minus front behind ≡ with_term minus (Some atom) (terms_reading (starts_with_minus behind) [] (drop 1 behind)) = others minus front behind some more in
    prepended_term items (record { minus = minus; atom = atom }) (terms_reading (starts_with_minus behind) [] (drop 1 behind))
    ∙ sym (ap (prepended items) one) ∙ sym (ap (prepended items) cut) ∙ so
  where
    others : (minus : Bool) (front behind : List ℕ) → atom_reading front ≡ Some atom → 0 < length behind
        → terms_cut minus front behind ≡ with_term minus (Some atom) (terms_reading (starts_with_minus behind) [] (drop 1 behind))
    others minus front [] is more = absurd (omega arith)
    others minus front (b ∷ behind) is more = rw is refl

-- ---- what a slice of the code is

-- a text that is not empty
pub not_empty : (text : List ℕ) (empty : Bool) → empty ≡ (length text == 0) → empty ≡ false → 0 < length text
not_empty text empty is fails = let other : (length text == 0) ≡ false = sym is ∙ fails in grind (arith, nat_tests)

-- and one that is
pub is_empty : (text : List ℕ) (empty : Bool) → empty ≡ (length text == 0) → empty ≡ true → text ≡ []
is_empty [] empty is holds = refl
is_empty (b ∷ text) empty is holds = let none : (length (b ∷ text) == 0) ≡ true = sym is ∙ holds in absurd (grind (arith, nat_tests))

-- what stands after the first byte
pub behind_first : (text : List ℕ) → take (length text - 1) (drop 1 text) ≡ drop 1 text
behind_first [] = refl
behind_first (b ∷ text) = take_all (length (b ∷ text) - 1) text (omega arith)

-- the front of a text is no longer than the text
front_short : (n : ℕ) (text : List ℕ) → length (take n text) ≤ length text
front_short n text = omega (arith, ap length (take-append-drop n text), length-append (take n text) (drop n text))

-- a field is no longer than its text
pub field_short : (text : List ℕ) → length (next_field text) ≤ length text
unfolding next_field leading_field behind_blanks
field_short text =
    let blanks = prefix_len is_blank text in
    let rest = drop blanks text in
    omega (arith, length-drop blanks text, front_short (position_or_len is_blank rest) rest)

-- nor is what stands after it, or after the field at the start
pub behind_field_short : (text : List ℕ) → length (behind_field text) ≤ length text
unfolding behind_field behind_leading_field behind_blanks
behind_field_short text =
    let blanks = prefix_len is_blank text in
    let rest = drop blanks text in
    omega (arith, length-drop blanks text, length-drop (position_or_len is_blank rest) rest)

pub behind_leading_short : (text : List ℕ) → length (behind_leading_field text) ≤ length text
unfolding behind_leading_field
behind_leading_short text = omega (arith, length-drop (position_or_len is_blank text) text)

pub operand_short : (line : List ℕ) → length (operand_field line) ≤ length line
operand_short line =
    omega (arith, field_short (behind_field (behind_leading_field line)), behind_field_short (behind_leading_field line), behind_leading_short line)

pub without_index_short : (operand : List ℕ) → length (without_index operand) ≤ length operand
unfolding without_index
without_index_short operand =
    elim (cases_Bool (is_indexed operand)) [
      | inl is ↦ rw is (omega (arith, front_short (length operand - 2) operand))
      | inr other ↦ rw other (omega arith)
    ]
