-- Columns of digits: what they write, and that what is printed reads back.
use Rattle.std.proofs.Common.{◌≡◌, ℕ, ◌<◌, ◌≤◌, ◌^◌, Bool, true, false, ◌&&◌, List, [], ◌∷◌, length, Some, None, refl, subst, arith}
use Rattle.std.specs.Prelude.{nat_lt}
use Rattle.std.specs.Char.{digit_value}
use Rattle.std.specs.Str.Parse.{AllDigits, digits_value}
use Rattle.std.proofs.lemmas.Bool.Decides.{nat_tests}
use Rattle.ags_text.specs.Numeral.{IsOctal, Writes, octal4_text, octal6_text}
use Rattle.ags_text.proofs.NumeralLemmas.{writes}
use Rattle.ags_image.specs.Image.{memory_size, PlacedWord, IsMemoryWord}
use Rattle.ags_image.specs.Columns.{are_digits, placed_in}

below_test : (x y : ℕ) → x < y → nat_lt x y ≡ true
below_test x y below = grind (arith, nat_tests)

test_below : (x y : ℕ) → nat_lt x y ≡ true → x < y
test_below x y is = grind (arith, nat_tests)

pub and_left : (x y : Bool) → x && y ≡ true → x ≡ true
and_left true y is = refl
and_left false y is = absurd cc

pub and_right : (x y : Bool) → x && y ≡ true → y ≡ true
and_right true y is = is
and_right false y is = absurd cc

pub digits_tested : (base : ℕ) (text : List ℕ) → AllDigits base text → are_digits base text ≡ true
digits_tested base [] digits = refl
digits_tested base (b ∷ text) digits = rw (below_test (digit_value b) base digits.0, digits_tested base text digits.1) refl

pub tested_digits : (base : ℕ) (text : List ℕ) → are_digits base text ≡ true → AllDigits base text
tested_digits base [] is = tt
tested_digits base (b ∷ text) is =
    (test_below (digit_value b) base (and_left _ (are_digits base text) is), tested_digits base text (and_right (nat_lt (digit_value b) base) _ is))

-- four octal digits write a place of the memory
pub four_digits : (text : List ℕ) → length text ≡ 4 → AllDigits 8 text → digits_value 8 text < 4096
four_digits [] four digits = absurd (omega arith)
four_digits (a ∷ []) four digits = absurd (omega arith)
four_digits (a ∷ b ∷ []) four digits = absurd (omega arith)
four_digits (a ∷ b ∷ c ∷ []) four digits = absurd (omega arith)
four_digits (a ∷ b ∷ c ∷ d ∷ []) four digits = omega (arith, digits.0, digits.1.0, digits.1.1.0, digits.1.1.1.0)
four_digits (a ∷ b ∷ c ∷ d ∷ e ∷ text) four digits = absurd (omega arith)

-- ---- as they are read

-- two columns with a number each
pub placed_of_numbers : (place word : List ℕ) (location number : ℕ) → IsOctal 6 place location → IsOctal 6 word number
    → Some (record { place = location; word = number }) ≡ placed_in place word
unfolding placed_in
placed_of_numbers place word location number is too =
    rw (digits_tested 8 place is.digits.1, digits_tested 8 word too.digits.1, is.value, too.value) refl

-- a text without a number has another byte than a digit
no_digits : (text : List ℕ) → 0 < length text → length text ≤ 6 → ((number : ℕ) → IsOctal 6 text number → ⊥) → are_digits 8 text ≡ false
no_digits text some fits none = tested (are_digits 8 text) refl
  where
    tested : (test : Bool) → are_digits 8 text ≡ test → test ≡ false
    tested false is = refl
    tested true is = absurd (none (digits_value 8 text) (record { digits = (some, tested_digits 8 text is); fits = fits; value = refl }))

and_false : (x : Bool) → x && false ≡ false
and_false true = refl
and_false false = refl

pub no_place : (place word : List ℕ) → length place ≡ 4 → ((number : ℕ) → IsOctal 6 place number → ⊥) → None ≡ placed_in place word
unfolding placed_in
no_place place word four none = rw (no_digits place (omega arith) (omega arith) none) refl

pub no_word : (place word : List ℕ) → length word ≡ 6 → ((number : ℕ) → IsOctal 6 word number → ⊥) → None ≡ placed_in place word
unfolding placed_in
no_word place word six none = rw (no_digits word (omega arith) (omega arith) none, and_false (are_digits 8 place)) refl

-- ---- as they are printed

pub printed_columns : (place word : ℕ) → place < memory_size → word < 2 ^ 18
    → placed_in (octal4_text place) (octal6_text word) ≡ Some (record { place = place; word = word })
unfolding placed_in
printed_columns place word within below =
    let four : Writes 8 4 (octal4_text place) place = writes 8 4 place (omega arith) (omega arith) within in
    let six : Writes 8 6 (octal6_text word) word = writes 8 6 word (omega arith) (omega arith) below in
    rw (digits_tested 8 (octal4_text place) four.digits, digits_tested 8 (octal6_text word) six.digits, four.value, six.value) refl

-- the place that a column of four digits writes is one of the memory's
pub place_within : (place : List ℕ) (location : ℕ) → length place ≡ 4 → IsOctal 6 place location → location < memory_size
place_within place location four is = rw is.value (four_digits place four is.digits.1)

-- six octal digits write a word
six_digits : (text : List ℕ) → length text ≡ 6 → AllDigits 8 text → digits_value 8 text < 2 ^ 18
six_digits [] six digits = absurd (omega arith)
six_digits (a ∷ []) six digits = absurd (omega arith)
six_digits (a ∷ b ∷ []) six digits = absurd (omega arith)
six_digits (a ∷ b ∷ c ∷ []) six digits = absurd (omega arith)
six_digits (a ∷ b ∷ c ∷ d ∷ []) six digits = absurd (omega arith)
six_digits (a ∷ b ∷ c ∷ d ∷ e ∷ []) six digits = absurd (omega arith)
six_digits (a ∷ b ∷ c ∷ d ∷ e ∷ f ∷ []) six digits = omega (arith, digits.0, digits.1.0, digits.1.1.0, digits.1.1.1.0, digits.1.1.1.1.0, digits.1.1.1.1.1.0)
six_digits (a ∷ b ∷ c ∷ d ∷ e ∷ f ∷ g ∷ text) six digits = absurd (omega arith)

-- columns of four and of six digits write a word of the memory at its place
pub columns_in_memory : (place word : List ℕ) (placed : PlacedWord) → length place ≡ 4 → length word ≡ 6 → placed_in place word ≡ Some placed → IsMemoryWord placed
unfolding placed_in
columns_in_memory place word placed four six is = tested (are_digits 8 place) (are_digits 8 word) refl refl is
  where
    tested : (one other : Bool) → are_digits 8 place ≡ one → are_digits 8 word ≡ other → placed_in place word ≡ Some placed → IsMemoryWord placed
    tested true true digits too is =
        let put : Some (record { place = digits_value 8 place; word = digits_value 8 word }) ≡ Some placed = rw (digits, too) at is in
        let same : record { place = digits_value 8 place; word = digits_value 8 word } ≡ placed = cc in
        subst IsMemoryWord same (record { place = four_digits place four (tested_digits 8 place digits); word = six_digits word six (tested_digits 8 word too) })
    tested false other digits too is = let wrong : None ≡ Some placed = rw digits at is in absurd cc
    tested true false digits too is = let wrong : None ≡ Some placed = rw (digits, too) at is in absurd cc
