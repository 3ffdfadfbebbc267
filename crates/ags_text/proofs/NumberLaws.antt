-- The number of a text is the one that its digits write, how large it is, and what the limit of the digits is to it.
--
-- The lemmas that the crates above may cite, each of them behind a clause of `number_laws.rt`: number_told and
-- number_written, number_read, number_short and number_long, number_below, writes_number and number_writes.
use Rattle.std.proofs.Common.{◌≡◌, ℕ, ◌+◌, ◌<◌, ◌≤◌, ◌^◌, ◌&&◌, true, false, List, [], ◌∷◌, length, Option, Some, None, refl, sym, ap, inl, inr, arith}
use Rattle.std.specs.Prelude.{nat_lt, IfSome}
use Rattle.std.specs.Char.{digit_value}
use Rattle.std.specs.List.{list_all}
use Rattle.std.specs.Str.Parse.{AllDigits, digits_value}
use Rattle.std.proofs.lemmas.Bool.{cases_Bool, and_parts, and_from, and_right, lt-ltb, le-ltb, ltb-true}
use Rattle.std.proofs.lemmas.Int.Digits.{digits_value-lt}
use Rattle.std.proofs.Math.Nat.{pow-le-pow_right}
use Rattle.ags_text.specs.Numeral.{IsNumber, Writes, number_of}
use Rattle.ags_text.proofs.Deciding.{same_answer}

-- digits pass the test of digits
pub digits_pass : (base : ℕ) (text : List ℕ) → AllDigits base text → list_all (λ b. nat_lt (digit_value b) base) text ≡ true
digits_pass base [] digits = refl
digits_pass base (b ∷ text) digits = and_from _ _ (lt-ltb (digit_value b) base digits.0) (digits_pass base text digits.1)

-- and what passes it is digits
passed_digits : (base : ℕ) (text : List ℕ) → list_all (λ b. nat_lt (digit_value b) base) text ≡ true → AllDigits base text
passed_digits base [] all = tt
passed_digits base (b ∷ text) all =
    let parts = and_parts (nat_lt (digit_value b) base) (list_all (λ x. nat_lt (digit_value x) base) text) all in
    (ltb-true (digit_value b) base parts.0, passed_digits base text parts.1)

-- ---- the function and the relation

-- the number that is told is the one that the digits write
pub number_told : (base most : ℕ) (text : List ℕ) (number : ℕ) → number_of base most text ≡ Some number → IsNumber base most text number
unfolding number_of
number_told base most text number is =
    elim (cases_Bool (list_all (λ b. nat_lt (digit_value b) base) text && (nat_lt 0 (length text) && nat_lt (length text) (most + 1)))) [
      | inl passes ↦
          let value = rw passes at is in
          let parts = and_parts (list_all (λ b. nat_lt (digit_value b) base) text) (nat_lt 0 (length text) && nat_lt (length text) (most + 1)) passes in
          let counts = and_parts (nat_lt 0 (length text)) (nat_lt (length text) (most + 1)) parts.1 in
          let few : length text < most + 1 = ltb-true (length text) (most + 1) counts.1 in
          record { digits = (ltb-true 0 (length text) counts.0, passed_digits base text parts.0); fits = omega (arith, few); value = (cc) }
      | inr fails ↦ let none = rw fails at is in absurd (cc)
    ]

-- and each such number is found
pub number_written : (base most : ℕ) (text : List ℕ) (number : ℕ) → IsNumber base most text number → number_of base most text ≡ Some number
unfolding number_of
number_written base most text number is =
    let few : length text < most + 1 = omega (arith, is.fits) in
    rw (digits_pass base text is.digits.1, lt-ltb 0 (length text) is.digits.0, lt-ltb (length text) (most + 1) few) (ap Some (sym is.value))

-- so an answer that is the written number, and the only one, is the number of the text
pub number_read : (base most : ℕ) (text : List ℕ) (result : Option ℕ) → IfSome result (λ number. IsNumber base most text number)
    → ((number : ℕ) → IsNumber base most text number → result ≡ Some number) → result ≡ number_of base most text
number_read base most text result found only =
    same_answer (IsNumber base most text) result (number_of base most text) found only (number_told base most text) (number_written base most text)

-- ---- the limit of the digits

-- it is of no account to a text within it
pub number_short : (base most other : ℕ) (text : List ℕ) → length text ≤ most → length text ≤ other → number_of base most text ≡ number_of base other text
unfolding number_of
number_short base most other text within also =
    rw (lt-ltb (length text) (most + 1) (omega (arith, within)), lt-ltb (length text) (other + 1) (omega (arith, also))) refl

-- and a text beyond it has no number
pub number_long : (base most : ℕ) (text : List ℕ) → most < length text → number_of base most text ≡ None
unfolding number_of
number_long base most text long =
    let few : nat_lt (length text) (most + 1) ≡ false = le-ltb (length text) (most + 1) (omega (arith, long)) in
    rw (and_right (list_all (λ b. nat_lt (digit_value b) base) text) _ (and_right (nat_lt 0 (length text)) _ few)) refl

-- the number is below that power of the base
pub number_below : (base most : ℕ) (text : List ℕ) (number : ℕ) → 0 < base → IsNumber base most text number → number < base ^ most
number_below base most text number some is =
    let below : digits_value base text < base ^ length text = digits_value-lt base text is.digits.1 in
    let powers : base ^ length text ≤ base ^ most = pow-le-pow_right some is.fits in
    omega (arith, below, powers, is.value)

-- ---- so many digits

-- digits of a width write a number
pub writes_number : (base width : ℕ) (text : List ℕ) (number : ℕ) → 0 < width → Writes base width text number → IsNumber base width text number
writes_number base width text number some is = record { digits = (omega (arith, some, is.length), is.digits); fits = omega (arith, is.length); value = sym is.value }

-- and a number's digits are of the width where they are so many
pub number_writes : (base most width : ℕ) (text : List ℕ) (number : ℕ) → length text ≡ width → IsNumber base most text number → Writes base width text number
number_writes base most width text number all is = record { length = all; digits = is.digits.1; value = sym is.value }
