-- Operands: what is read is what is written, both ways.
use Rattle.std.proofs.Common.{◌≡◌, ℕ, ◌+◌, ◌-◌, ◌<◌, ◌&&◌, ◌==◌, Bool, true, false, List, [], ◌∷◌, ◌++◌, length, take, get_or, Option, Some, None, refl, sym, ap, ◌∙◌, inl, inr, append_assoc, arith}
use Rattle.std.specs.Prelude.{nat_lt, slice_index, Ok}
use Rattle.std.specs.List.{list_all}
use Rattle.std.specs.Str.Parse.{starts_with_minus, without_leading_sign}
use Rattle.std.proofs.lemmas.Bool.{cases_Bool, and_parts, and_from, lt-ltb, ltb-true, eqb-true, eq-eqb, true≢false, false_from_ne_true}
use Rattle.std.proofs.lemmas.Grind.{common_steps}
use Rattle.std.proofs.lemmas.List.{append-nil, length-append, take_all, take_at, take_more}
use Rattle.std.proofs.lemmas.List.Folds.{list_all-append}
use Rattle.ags_text.specs.Numeral.{number_of}
use Rattle.ags_text.proofs.NumberLaws.{number_told, number_written}
use Rattle.ags_decimal.specs.Decimal.{Parts}
use Rattle.ags_decimal.specs.Reading.{reading, reading_before_scale, front_at, rest_at, marked_reading, digits_of, behind_sign}
use Rattle.ags_decimal.specs.Spelling.{is_digit, are_digits, IsSign, IsMarked, IsPointed, Spells}
use Rattle.ags_decimal.proofs.SpellingLaws.{reading-spells, spelled-reading}
use Rattle.ags_card.specs.declared.terms.Term.{Term}
use Rattle.ags_card.specs.Spelling.{IsExpression, IsOrderOperand, signed_word, IsOctalOperand, IsList}
use Rattle.ags_card.specs.Reading.{expression_reading, is_indexed, without_index, order_terms, plain_terms, decimal_operands, octal_reading, octal_operands, list_reading}
use Rattle.ags_card.proofs.ByteLemmas.{list_all-join, list_all-weaken, first_by, is_not, octal_bytes, sign_front, BeginsUnsigned, starts_with_minus-signed, without_leading_sign-signed}
use Rattle.ags_card.proofs.ExpressionLaws.{expression_spelled, expression_read, expression_no_comma, expression_some}
use Rattle.ags_card.proofs.ListLaws.{is_no_comma, list_spelled, list_read, list_length}
use Rattle.ags_card.proofs.ResultLemmas.{checked_ok, ok_or_ok, option_map_some}

-- ---- the mark of the index

-- an operand that has the mark is a front and the mark
index_at_end : (operand : List ℕ) → is_indexed operand ≡ true → operand ≡ take (length operand - 2) operand ++ 44 ∷ 49 ∷ []
unfolding is_indexed
index_at_end operand is =
    let parts = and_parts (nat_lt 1 (length operand)) (slice_index operand (length operand - 2) == 44 && slice_index operand (length operand - 1) == 49) is in
    let bytes = and_parts (slice_index operand (length operand - 2) == 44) (slice_index operand (length operand - 1) == 49) parts.1 in
    let long : 1 < length operand = ltb-true 1 (length operand) parts.0 in
    let n : ℕ = length operand - 2 in
    let last : length operand - 1 ≡ n + 1 = omega (arith, long) in
    let comma : get_or operand n 0 ≡ 44 = eqb-true (slice_index operand (length operand - 2)) 44 bytes.0 in
    let one : get_or operand (n + 1) 0 ≡ 49 = ap (λ (i : ℕ). get_or operand i 0) (sym last) ∙ eqb-true (slice_index operand (length operand - 1)) 49 bytes.1 in
    let first : take (n + 1) operand ≡ take n operand ++ 44 ∷ [] = rw comma at (take_more operand n 0 (omega (arith, long))) in
    let second : take (n + 1 + 1) operand ≡ take (n + 1) operand ++ 49 ∷ [] = rw one at (take_more operand (n + 1) 0 (omega (arith, long))) in
    let whole : take (n + 1 + 1) operand ≡ operand = take_all (n + 1 + 1) operand (omega (arith, long)) in
    sym whole ∙ second ∙ ap (λ x. x ++ 49 ∷ []) first ∙ append_assoc (take n operand) (44 ∷ []) (49 ∷ [])

-- and such an operand has it
index_read : (front : List ℕ) → is_indexed (front ++ 44 ∷ 49 ∷ []) ≡ true
unfolding is_indexed
index_read front =
    let operand : List ℕ = front ++ 44 ∷ 49 ∷ [] in
    let long : length operand ≡ length front + 2 = length-append front (44 ∷ 49 ∷ []) in
    let comma : get_or operand (length operand - 2) 0 ≡ 44 = grind (arith, common_steps) in
    let one : get_or operand (length operand - 1) 0 ≡ 49 = grind (arith, common_steps) in
    and_from _ _ (lt-ltb 1 (length operand) (omega (arith, long))) (and_from _ _ (eq-eqb _ 44 comma) (eq-eqb _ 49 one))

without_index_read : (front : List ℕ) → without_index (front ++ 44 ∷ 49 ∷ []) ≡ front
unfolding without_index
without_index_read front =
    let long : length (front ++ 44 ∷ 49 ∷ []) ≡ length front + 2 = length-append front (44 ∷ 49 ∷ []) in
    rw (index_read front) (ap (λ (n : ℕ). take n (front ++ 44 ∷ 49 ∷ [])) (omega (arith, long)) ∙ take_at front (44 ∷ 49 ∷ []) (length front) refl)

-- an operand without a comma does not have it
index_not : (operand : List ℕ) → list_all is_no_comma operand ≡ true → is_indexed operand ≡ false
index_not operand all =
    false_from_ne_true (is_indexed operand) (λ is.
    let front = take (length operand - 2) operand in
    let whole : list_all is_no_comma (front ++ 44 ∷ 49 ∷ []) ≡ true = ap (list_all is_no_comma) (sym (index_at_end operand is)) ∙ all in
    let parts = and_parts (list_all is_no_comma front) (list_all is_no_comma (44 ∷ 49 ∷ [])) (sym (list_all-append is_no_comma front (44 ∷ 49 ∷ [])) ∙ whole) in
    true≢false (sym parts.1))

-- ---- an operand that is there, and one alone

pub some_length : (operand : List ℕ) → 0 < length operand → nat_lt 0 (length operand) ≡ true
some_length operand some = lt-ltb 0 (length operand) some

-- what stands before the mark or without it is the expression
pub marked : (operand : List ℕ) (terms : List Term) → IsExpression (without_index operand) terms → IsOrderOperand terms (is_indexed operand) operand
unfolding without_index
marked operand terms expression =
    elim (cases_Bool (is_indexed operand)) [
      | inl is ↦ rw is (take (length operand - 2) operand, index_at_end operand is, rw is at expression)
      | inr other ↦ rw other (operand, sym (append-nil operand), rw other at expression)
    ]

unmarked : (operand : List ℕ) → is_indexed operand ≡ false → without_index operand ≡ operand
unfolding without_index
unmarked operand other = rw other refl

pub order_spelled : (operand : List ℕ) (terms : List Term) → order_terms operand ≡ Ok terms → (0 < length operand) × IsOrderOperand terms (is_indexed operand) operand
unfolding order_terms
order_spelled operand terms is =
    let there = checked_ok (nat_lt 0 (length operand)) _ _ terms is in
    let found = ok_or_ok (expression_reading (without_index operand)) _ terms there.1 in
    (ltb-true 0 (length operand) there.0, marked operand terms (expression_spelled (without_index operand) terms found))

pub order_read : (operand : List ℕ) (terms : List Term) (indexed : Bool) → IsOrderOperand terms indexed operand → (order_terms operand ≡ Ok terms) × (is_indexed operand ≡ indexed)
unfolding order_terms
order_read operand terms true is =
    let long : length (is.0 ++ 44 ∷ 49 ∷ []) ≡ length is.0 + 2 = length-append is.0 (44 ∷ 49 ∷ []) in
    rw (is.1) (rw (some_length (is.0 ++ 44 ∷ 49 ∷ []) (omega (arith, long)), without_index_read is.0, expression_read is.0 terms is.2) refl, index_read is.0)
order_read operand terms false is =
    let same : operand ≡ is.0 = is.1 ∙ append-nil is.0 in
    let not_marked = index_not is.0 (expression_no_comma is.0 terms is.2) in
    rw same (rw (some_length is.0 (expression_some is.0 terms is.2), unmarked is.0 not_marked, expression_read is.0 terms is.2) refl, not_marked)

pub plain_spelled : (operand : List ℕ) (terms : List Term) → plain_terms operand ≡ Ok terms → (0 < length operand) × IsExpression operand terms
unfolding plain_terms
plain_spelled operand terms is =
    let there = checked_ok (nat_lt 0 (length operand)) _ _ terms is in
    let alone = checked_ok (list_all is_no_comma operand) _ _ terms there.1 in
    (ltb-true 0 (length operand) there.0, expression_spelled operand terms (ok_or_ok (expression_reading operand) _ terms alone.1))

pub plain_read : (operand : List ℕ) (terms : List Term) → IsExpression operand terms → plain_terms operand ≡ Ok terms
unfolding plain_terms
plain_read operand terms is =
    rw (some_length operand (expression_some operand terms is), expression_no_comma operand terms is, expression_read operand terms is) refl

-- ---- decimals

-- no comma is among digits, a sign or a signed number
digits_no_comma : (text : List ℕ) → list_all is_digit text ≡ true → list_all is_no_comma text ≡ true
digits_no_comma text all = list_all-weaken is_digit is_no_comma (is_not is_digit 44 refl) text all

sign_no_comma : (negative : Bool) (sign : List ℕ) → IsSign negative sign → list_all is_no_comma sign ≡ true
sign_no_comma true sign is = rw is refl
sign_no_comma false sign (inl none) = rw none refl
sign_no_comma false sign (inr plus) = rw plus refl

all_digits : (most : ℕ) (text : List ℕ) → are_digits most text ≡ true → list_all is_digit text ≡ true
all_digits most text is = (and_parts (list_all is_digit text) (nat_lt 0 (length text) && nat_lt (length text) (most + 1)) is).0

marked_no_comma : (mark : ℕ) (usual : _) (text : List ℕ) (number : _) → is_no_comma mark ≡ true → IsMarked mark usual text number → list_all is_no_comma text ≡ true
marked_no_comma mark usual text number other (inl none) = rw (none.0) refl
marked_no_comma mark usual text number other (inr marked) =
    let signed = marked.2 in
    let digits = digits_no_comma signed.digits (all_digits 2 signed.digits signed.are_digits) in
    let behind : list_all is_no_comma marked.0 ≡ true = rw (signed.whole) (list_all-join is_no_comma signed.sign signed.digits (sign_no_comma signed.negative signed.sign signed.is_sign) digits) in
    rw (marked.1, other) behind

pointed_no_comma : (digits : List ℕ) (places : ℕ) (text : List ℕ) → IsPointed digits places text → list_all is_no_comma digits ≡ true → list_all is_no_comma text ≡ true
pointed_no_comma digits places text (inl plain) all = rw (plain.0) all
pointed_no_comma digits places text (inr pointed) all =
    let whole : list_all is_no_comma (pointed.0 ++ pointed.1) ≡ true = rw (pointed.2) at all in
    let parts = and_parts (list_all is_no_comma pointed.0) (list_all is_no_comma pointed.1) (sym (list_all-append is_no_comma pointed.0 pointed.1) ∙ whole) in
    rw (pointed.4) (list_all-join is_no_comma pointed.0 (46 ∷ pointed.1) parts.0 parts.1)

decimal_no_comma : (text : List ℕ) (parts : Parts) → Spells text parts → list_all is_no_comma text ≡ true
decimal_no_comma text parts is =
    let number = pointed_no_comma is.digits is.places is.number is.is_number (digits_no_comma is.digits (all_digits 10 is.digits is.are_digits)) in
    let sign = sign_no_comma parts.negative is.sign is.is_sign in
    let exponent = marked_no_comma 69 _ is.exponent_part is.exponent refl is.is_exponent in
    let scale = marked_no_comma 66 _ is.scale_part parts.scale refl is.is_scale in
    let mantissa = list_all-join is_no_comma is.sign is.number sign number in
    rw (is.whole) (list_all-join is_no_comma (is.sign ++ is.number ++ is.exponent_part) is.scale_part (list_all-join is_no_comma (is.sign ++ is.number) is.exponent_part mantissa exponent) scale)

pub decimal_some : (text : List ℕ) (parts : Parts) → reading text ≡ Some parts → 0 < length text
unfolding reading reading_before_scale front_at rest_at marked_reading digits_of behind_sign
decimal_some [] parts is = let none : ◌≡◌ {A = Option Parts} None (Some parts) = is in absurd (cc)
decimal_some (b ∷ text) parts is = omega arith

pub decimal_finds : (text : List ℕ) (parts : Parts) → Spells text parts → reading text ≡ Some parts
decimal_finds text parts is = spelled-reading text parts is

pub decimal_length : (text : List ℕ) (parts : Parts) → Spells text parts → 0 < length text
decimal_length text parts is = decimal_some text parts (spelled-reading text parts is)

pub decimal_spelled : (operand : List ℕ) (numbers : List Parts) → decimal_operands operand ≡ Ok numbers → (0 < length operand) × IsList Spells operand numbers
unfolding decimal_operands
decimal_spelled operand numbers is =
    let there = checked_ok (nat_lt 0 (length operand)) _ _ numbers is in
    (ltb-true 0 (length operand) there.0, list_spelled reading Spells reading-spells operand numbers (ok_or_ok (list_reading reading [] operand) _ numbers there.1))

pub decimal_read : (operand : List ℕ) (numbers : List Parts) → IsList Spells operand numbers → decimal_operands operand ≡ Ok numbers
unfolding decimal_operands
decimal_read operand numbers is =
    let some = list_length Spells decimal_length numbers operand is in
    rw (some_length operand some, list_read reading Spells decimal_finds decimal_no_comma numbers operand is) refl

-- ---- octal numbers

pub octal_spells : (text : List ℕ) (word : ℕ) → octal_reading text ≡ Some word → IsOctalOperand text word
unfolding octal_reading
octal_spells text word is =
    let found = option_map_some (signed_word (starts_with_minus text)) (number_of 8 6 (without_leading_sign text)) word is in
    let sign = sign_front text in
    record {
      negative = starts_with_minus text;
      sign = sign.sign;
      digits = without_leading_sign text;
      number = found.x;
      whole = sign.whole;
      is_sign = sign.is_sign;
      is_octal = number_told 8 6 (without_leading_sign text) found.x found.found_is;
      word_is = found.made;
    }

pub octal_found : (text : List ℕ) (word : ℕ) → IsOctalOperand text word → octal_reading text ≡ Some word
unfolding octal_reading
octal_found text word is =
    let bytes = octal_bytes is.digits is.is_octal.digits.1 in
    let minus_not : (slice_index is.digits 0 == 45) ≡ false = rw append-nil at (first_by is_digit 45 refl is.digits [] is.is_octal.digits.0 bytes) in
    let plus_not : (slice_index is.digits 0 == 43) ≡ false = rw append-nil at (first_by is_digit 43 refl is.digits [] is.is_octal.digits.0 bytes) in
    let unsigned : BeginsUnsigned is.digits = record { minus = minus_not; plus = plus_not } in
    let minus = starts_with_minus-signed is.negative is.sign is.digits is.is_sign unsigned in
    let behind = without_leading_sign-signed is.negative is.sign is.digits is.is_sign unsigned in
    rw (is.whole, behind, minus, number_written 8 6 is.digits is.number is.is_octal) (ap Some (sym is.word_is))

octal_no_comma : (text : List ℕ) (word : ℕ) → IsOctalOperand text word → list_all is_no_comma text ≡ true
octal_no_comma text word is =
    rw (is.whole) (list_all-join is_no_comma is.sign is.digits (sign_no_comma is.negative is.sign is.is_sign) (digits_no_comma is.digits (octal_bytes is.digits is.is_octal.digits.1)))

pub octal_some : (text : List ℕ) (word : ℕ) → IsOctalOperand text word → 0 < length text
octal_some text word is = let long = length-append is.sign is.digits in rw (is.whole) (omega (arith, long, is.is_octal.digits.0))

pub octal_spelled : (operand words : List ℕ) → octal_operands operand ≡ Ok words → (0 < length operand) × IsList IsOctalOperand operand words
unfolding octal_operands
octal_spelled operand words is =
    let there = checked_ok (nat_lt 0 (length operand)) _ _ words is in
    (ltb-true 0 (length operand) there.0, list_spelled octal_reading IsOctalOperand octal_spells operand words (ok_or_ok (list_reading octal_reading [] operand) _ words there.1))

pub octal_read : (operand words : List ℕ) → IsList IsOctalOperand operand words → octal_operands operand ≡ Ok words
unfolding octal_operands
octal_read operand words is =
    let some = list_length IsOctalOperand octal_some words operand is in
    rw (some_length operand some, list_read octal_reading IsOctalOperand octal_found octal_no_comma words operand is) refl

-- no text of nothing is an octal number
pub octal_there : (text : List ℕ) (word : ℕ) → octal_reading text ≡ Some word → 0 < length text
octal_there text word is = octal_some text word (octal_spells text word is)
