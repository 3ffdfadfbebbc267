-- The digits of a number: how many, that each is one, and that they read back.
use Rattle.std.proofs.Common.{◌≡◌, ℕ, zero, suc, ◌+◌, ◌-◌, ◌*◌, ◌/◌, ◌%◌, ◌^◌, ◌<◌, ◌≤◌, List, [], ◌∷◌, ◌++◌, length, get_or, refl, ◌∙◌, arith, inl, inr}
use Rattle.std.specs.Prelude.{IsOk, Ok, Err, Result, MatchResult}
use Rattle.std.specs.Str.{IsAscii, IsUtf8}
use Rattle.std.specs.Char.{digit_value}
use Rattle.std.specs.Str.Parse.{AllDigits, digits_value_after}
use Rattle.std.proofs.lemmas.Bool.{cases_lt}
use Rattle.std.proofs.lemmas.Bool.Decides.{nat_tests}
use Rattle.std.proofs.lemmas.List.{length-append, get_or_append_left, get_or-append_right}
use native.Mathlib.Numerals.{unary_clauses}
use Rattle.std.proofs.lemmas.Nat.{div_below, mul-add-lt}
use Rattle.std.proofs.lemmas.Grind.{pow_more}
use Rattle.std.proofs.Math.Nat.{pow-suc, pow-le-pow_right, mul_comm, mod-eq-sub-div-mul, div-mul-le_self}
use Rattle.std.proofs.lemmas.Str.{IsUtf8-from_ascii}
use Rattle.ags_text.specs.Numeral.{numeral, decimal7_text, Writes}

pub length-numeral : (base width n : ℕ) → length (numeral base width n) ≡ width
unfolding numeral
length-numeral base zero n = refl
length-numeral base (suc width) n = omega (arith, length-append (numeral base width (n / base)) ((48 + n % base) ∷ []), length-numeral base width (n / base))

-- ---- each byte is ASCII

IsAscii-push : (bytes : List ℕ) (last : ℕ) → IsAscii bytes → last < 128 → IsAscii (bytes ++ last ∷ [])
IsAscii-push bytes last ascii below i =
    elim (cases_lt i (length bytes)) [
      | inl lt ↦ rw (get_or_append_left bytes (last ∷ []) 0 i lt) (ascii i)
      | inr le ↦ rw (get_or-append_right bytes (last ∷ []) (length bytes) i 0 refl le) (one (i - length bytes))
    ]
  where
    one : (k : ℕ) → get_or (last ∷ []) k 0 < 128
    one zero = below
    one (suc k) = omega arith

pub IsAscii-numeral : (base width n : ℕ) → 0 < base → base ≤ 10 → IsAscii (numeral base width n)
unfolding numeral
IsAscii-numeral base zero n some most = λ i. omega arith
IsAscii-numeral base (suc width) n some most = IsAscii-push (numeral base width (n / base)) (48 + n % base) (IsAscii-numeral base width (n / base) some most) (omega arith)

pub decimal7-IsAscii : (n : ℕ) → IsAscii (decimal7_text n)
decimal7-IsAscii n = IsAscii-numeral 10 7 n (omega arith) (omega arith)

-- ---- they are digits, and read back

digit_value-digit : (d : ℕ) → d < 10 → digit_value (48 + d) ≡ d
digit_value-digit d small = grind (arith, nat_tests)

AllDigits-push : (base : ℕ) (text : List ℕ) (last : ℕ) → AllDigits base text → digit_value last < base → AllDigits base (text ++ last ∷ [])
AllDigits-push base [] last digits below = (below, tt)
AllDigits-push base (d ∷ text) last digits below = (digits.0, AllDigits-push base text last digits.1 below)

digits_value_after-push : (base number : ℕ) (text : List ℕ) (last : ℕ) → digits_value_after base number (text ++ last ∷ []) ≡ digits_value_after base number text * base + digit_value last
digits_value_after-push base number [] last = refl
digits_value_after-push base number (d ∷ text) last = digits_value_after-push base (number * base + digit_value d) text last

last_digit : (base n : ℕ) → 0 < base → base ≤ 10 → (n % base < base) × (digit_value (48 + n % base) ≡ n % base)
last_digit base n some most = let below : n % base < base = omega arith in (below, digit_value-digit (n % base) (omega arith))

pub writes : (base width n : ℕ) → 0 < base → base ≤ 10 → n < base ^ width → Writes base width (numeral base width n) n
unfolding numeral
writes base zero n some most fits = let none : n < 1 = simp unary_clauses at fits in record { length = refl; digits = tt; value = omega arith }
writes base (suc width) n some most fits =
    let last = last_digit base n some most in
    let front = writes base width (n / base) some most (div_below n base (base ^ width) some (rw pow-suc at fits)) in
    record {
      length = length-numeral base (suc width) n;
      digits = AllDigits-push base (numeral base width (n / base)) (48 + n % base) front.digits (rw last.1 last.0);
      value = digits_value_after-push base 0 (numeral base width (n / base)) (48 + n % base) ∙ rw (front.value, last.1) (omega (arith, mod-eq-sub-div-mul n base, div-mul-le_self n base));
    }

-- digits are text
pub text_of_digits : {T E : Type 0} (bytes : List ℕ) (P : T → Type 0) (Q : E → Type 0) (result : Result T E) → MatchResult result P (λ e. (IsUtf8 bytes → ⊥) × Q e) → IsAscii bytes → IsOk result
text_of_digits bytes P Q (Ok text) is ascii = refl
text_of_digits bytes P Q (Err e) is ascii = absurd (is.0 (IsUtf8-from_ascii bytes ascii))

-- ---- digits that are read

-- a number below a power of its base that is not the highest, and one digit more
pub room : (base most index number digit : ℕ) → 2 ≤ base → base ^ most ≤ 2 ^ 32 → index < most → number < base ^ index → digit < base → number * base + digit < 2 ^ 32
room base most index number digit low high within small below =
    let step : number * base + digit < base * base ^ index = mul-add-lt number base digit (base ^ index) small below in
    let more : base ^ (index + 1) ≡ base ^ index * base = pow_more base index in
    let turned : base * base ^ index ≡ base ^ index * base = mul_comm base (base ^ index) in
    let some : 0 < base = omega (arith, low) in
    let within_power : base ^ (index + 1) ≤ base ^ most = pow-le-pow_right some (omega (arith, within)) in
    omega (arith, step, more, turned, within_power, high)

-- a number below a power of its base is below a higher one
pub below_most : (base most index number : ℕ) → 2 ≤ base → index ≤ most → number < base ^ index → number < base ^ most
below_most base most index number low within small =
    let some : 0 < base = omega (arith, low) in
    let powers : base ^ index ≤ base ^ most = pow-le-pow_right some within in
    omega (arith, powers, small)
