-- A decimal and its word: the decimal's value, rounded to the nearest whole number by one division of whole numbers.
use Rattle.std.specs.Prelude.{ℕ, ◌+◌, ◌*◌, ◌/◌, ◌<◌, ◌≤◌, ◌^◌, Bool, false, ℤ, pos, negsuc, ◌-ℤ◌, ◌≤ℤ◌, neg_ℤ, Option, if◌then◌else◌}
use Rattle.ags_word.specs.Word.{word_of_value}

-- A decimal: the number that its digits write, without a sign and without the point; the power of ten that it is times;
-- and its scale, which is how many bits of the word stand before the binary point. Its value is in units of the word's
-- last bit: the number, times ten to the power, times two to 17 less the scale.
pub record Parts : Type 0 where
  pub negative : Bool
  pub digits : ℕ
  pub power : ℤ
  pub scale : ℤ

-- the number 0, at the scale that a number has where none is written
abbrev pub zero : Parts
zero = record { negative = false; digits = 0; power = pos 0; scale = pos 17 }

-- ten digits at most, a power from -12 to 12 and a scale from -30 to 60
pub record IsWithinLimits (parts : Parts) : Type 0 where
  pub digits : parts.digits < 10 ^ 10
  pub least_power : neg_ℤ (pos 12) ≤ℤ parts.power
  pub most_power : parts.power ≤ℤ pos 12
  pub least_scale : neg_ℤ (pos 30) ≤ℤ parts.scale
  pub most_scale : parts.scale ≤ℤ pos 60

-- a power above the line of a fraction: 1 where the exponent is negative
abbrev pub power_above : (base : ℕ) → ℤ → ℕ
power_above base (pos n) = base ^ n
power_above base (negsuc n) = 1

-- a power below the line of a fraction: 1 where the exponent is not negative
abbrev pub power_below : (base : ℕ) → ℤ → ℕ
power_below base (pos n) = 1
power_below base (negsuc n) = base ^ (n + 1)

-- the exponent of two that a scale stands for: the last of a word's 17 bits after the sign is worth 1
abbrev pub binary_exponent : Parts → ℤ
binary_exponent parts = pos 17 -ℤ parts.scale

-- the size of a decimal as a fraction: above the line
unfoldable pub numerator : Parts → ℕ
numerator parts = parts.digits * power_above 10 parts.power * power_above 2 (binary_exponent parts)

-- and below it
unfoldable pub denominator : Parts → ℕ
denominator parts = power_below 10 parts.power * power_below 2 (binary_exponent parts)

-- a fraction rounded to the nearest whole number, a half upward
abbrev pub nearest_quotient : (n d : ℕ) → ℕ
nearest_quotient n d = (2 * n + d) / (2 * d)

-- the size of a decimal, rounded to the nearest whole number
unfoldable pub nearest_size : Parts → ℕ
nearest_size parts = nearest_quotient (numerator parts) (denominator parts)

-- a size with a sign
abbrev pub signed : Bool → ℕ → ℤ
signed negative size = if negative then neg_ℤ (pos size) else pos size

-- the value of a decimal, rounded to the nearest whole number, a half away from zero
abbrev pub nearest_value : Parts → ℤ
nearest_value parts = signed parts.negative (nearest_size parts)

-- the word of a decimal, and nothing where its rounded value is no word's
abbrev pub decimal_word : Parts → Option ℕ
decimal_word parts = word_of_value (nearest_value parts)

-- a whole number is as near to a fraction as one can be, and a half goes upward: twice what they differ by lies from
-- minus the divisor, and not with it, to the divisor
pub record IsNearestSize (n d size : ℕ) : Type 0 where
  pub least : 2 * (size * d) ≤ 2 * n + d
  pub most : 2 * n < 2 * (size * d) + d
