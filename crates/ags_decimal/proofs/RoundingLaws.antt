-- A decimal's size is the nearest whole number to its fraction.
use Rattle.std.proofs.Common.{◌≡◌, ℕ, ◌+◌, ◌*◌, ◌/◌, ◌%◌, ◌<◌, ◌≤◌, Bool, true, false, not, refl, inl, inr, arith, ℤ, pos, negsuc}
use Rattle.std.specs.Prelude.{neg_ℤ}
use Rattle.std.proofs.lemmas.Int.{ints}
use Rattle.std.proofs.lemmas.Nat.{mul-le}
use Rattle.std.proofs.lemmas.Bool.{cases_lt}
use Rattle.std.proofs.Math.Nat.{one-le-pow, mul_comm}
use Rattle.ags_decimal.specs.Decimal.{Parts, power_below, binary_exponent, numerator, denominator, nearest_size, nearest_value, nearest_quotient, signed, IsNearestSize}

power_below_some : (base : ℕ) (exponent : ℤ) → 0 < base → 0 < power_below base exponent
power_below_some base (pos n) some = omega arith
power_below_some base (negsuc n) some = one-le-pow (n + 1) base some

pub denominator_some : (parts : Parts) → 0 < denominator parts
unfolding denominator
denominator_some parts =
    mul-le 1 1 _ _ (power_below_some 10 parts.power (omega arith)) (power_below_some 2 (binary_exponent parts) (omega arith))

nearest_quotient-nearest : (n d : ℕ) → 0 < d → IsNearestSize n d (nearest_quotient n d)
nearest_quotient-nearest n d some =
    let whole : 2 * d * ((2 * n + d) / (2 * d)) + (2 * n + d) % (2 * d) ≡ 2 * n + d = omega arith in
    let below : (2 * n + d) % (2 * d) < 2 * d = omega arith in
    let turned : (2 * n + d) / (2 * d) * d ≡ d * ((2 * n + d) / (2 * d)) = mul_comm _ _ in
    let grouped : 2 * d * ((2 * n + d) / (2 * d)) ≡ 2 * (d * ((2 * n + d) / (2 * d))) = Rattle.std.proofs.Math.Nat.mul_assoc 2 d ((2 * n + d) / (2 * d)) in
    record { least = omega arith; most = omega arith }

pub nearest_size-nearest : (parts : Parts) → IsNearestSize (numerator parts) (denominator parts) (nearest_size parts)
unfolding nearest_size
nearest_size-nearest parts = nearest_quotient-nearest (numerator parts) (denominator parts) (denominator_some parts)

not_less : (n d one other : ℕ) → IsNearestSize n d one → IsNearestSize n d other → one < other → ⊥
not_less n d one other first second less =
    let more : (one + 1) * d ≤ other * d = mul-le (one + 1) d other d (omega arith) (omega arith) in
    let split : (one + 1) * d ≡ one * d + d = omega arith in
    let most = first.most in
    let least = second.least in
    omega arith

pub nearest_one : (n d one other : ℕ) → IsNearestSize n d one → IsNearestSize n d other → one ≡ other
nearest_one n d one other first second =
    elim (cases_lt one other) [
      | inl less ↦ absurd (not_less n d one other first second less)
      | inr le ↦ elim (cases_lt other one) [
        | inl less ↦ absurd (not_less n d other one second first less)
        | inr ge ↦ omega arith
      ]
    ]

signed_not : (negative : Bool) (size : ℕ) → signed (not negative) size ≡ neg_ℤ (signed negative size)
signed_not true size = omega (arith, ints)
signed_not false size = refl

pub nearest_value-not : (parts : Parts) → nearest_value (record parts { negative = not parts.negative }) ≡ neg_ℤ (nearest_value parts)
unfolding nearest_size numerator denominator
nearest_value-not parts = signed_not parts.negative (nearest_size parts)
