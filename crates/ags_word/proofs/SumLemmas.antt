-- What 128 bits hold of the values of two words, and of their sum and their difference.
use Rattle.std.proofs.Common.{◌≡◌, ◌^◌, ℤ, pos, neg_ℤ, ◌+ℤ◌, ◌-ℤ◌, ◌≤ℤ◌, ◌<ℤ◌, FitsSigned, to_z, of_z, arith}
use Rattle.std.specs.Int.{w32, w128}
use Rattle.std.proofs.lemmas.Int.{ints, to_z-of_z, fits_signed_from_abs}

-- a word's value, as 128 bits hold it
pub widened : (value wide : ℤ) → wide ≡ to_z w32 (of_z w32 value) → neg_ℤ (pos (2 ^ 17)) ≤ℤ value → value <ℤ pos (2 ^ 17) → to_z w128 (of_z w128 wide) ≡ value
widened value wide is least most =
    let fits : FitsSigned w32 value = fits_signed_from_abs w32 value (omega (arith, ints)) in
    rw (is, to_z-of_z w32 value fits) (to_z-of_z w128 value (fits_signed_from_abs w128 value (omega (arith, ints))))

pub sum_fits : (a m : ℤ) → neg_ℤ (pos (2 ^ 17)) ≤ℤ a → a <ℤ pos (2 ^ 17) → neg_ℤ (pos (2 ^ 17)) ≤ℤ m → m <ℤ pos (2 ^ 17) → FitsSigned w128 (a +ℤ m)
sum_fits a m least_a most_a least_m most_m = fits_signed_from_abs w128 (a +ℤ m) (omega (arith, ints))

pub difference_fits : (a m : ℤ) → neg_ℤ (pos (2 ^ 17)) ≤ℤ a → a <ℤ pos (2 ^ 17) → neg_ℤ (pos (2 ^ 17)) ≤ℤ m → m <ℤ pos (2 ^ 17) → FitsSigned w128 (a -ℤ m)
difference_fits a m least_a most_a least_m most_m = fits_signed_from_abs w128 (a -ℤ m) (omega (arith, ints))
