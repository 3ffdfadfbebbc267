-- A pair of words, A and Q, stands for one whole number of 35 bits: A's value above Q's low 17 bits.
-- Q's own top bit tells nothing of it, and is set to A's where a pair is made.
use Rattle.std.specs.Prelude.{◌≡◌, ℕ, ◌<◌, ◌≤◌, ◌+◌, ◌*◌, ◌/◌, ◌%◌, ◌^◌, Bool, ℤ, pos, ◌+ℤ◌, ◌-ℤ◌, ◌*ℤ◌, ◌≤ℤ◌, ◌<ℤ◌, neg_ℤ, int_lt, unsigned_abs, Option, None, if◌then◌else◌}
use Rattle.std.specs.Int.{int_rem_euclid, int_div_euclid}
use Rattle.std.specs.Int.RustNames.{int_div}
use Rattle.std.specs.Ordering.{int_eq}
use Rattle.ags_word.specs.Word.{val, lies_within, wrap, word_of_value}

-- a right shift: the whole number over a power of two, rounded down
abbrev pub shifted_right : ℤ → ℕ → ℤ
shifted_right n count = int_div_euclid n (pos (2 ^ count))

-- the whole number is another one over a divisor, rounded down: a rest below the divisor is left, and it is not negative
pub record IsFloor (n : ℤ) (divisor : ℕ) (quotient : ℤ) : Type 0 where
  pub rest : ℕ
  pub below : rest < divisor
  pub whole : quotient *ℤ pos divisor +ℤ pos rest ≡ n

-- the whole number is another one over a divisor, cut off toward zero: what is left is smaller than the divisor,
-- and what the quotient makes is no larger than the number
pub record IsCutOff (n divisor quotient : ℤ) : Type 0 where
  pub rest : ℤ
  pub below : unsigned_abs rest < unsigned_abs divisor
  pub whole : quotient *ℤ divisor +ℤ rest ≡ n
  pub toward : unsigned_abs (quotient *ℤ divisor) ≤ unsigned_abs n

-- the whole number is another one over twice a half, to the nearest and from a half up: what is left lies from minus that half
-- up to, and not with, the half
pub record IsNearest (n : ℤ) (half : ℕ) (quotient : ℤ) : Type 0 where
  pub least : neg_ℤ (pos half) ≤ℤ (n -ℤ quotient *ℤ pos (2 * half))
  pub most : (n -ℤ quotient *ℤ pos (2 * half)) <ℤ pos half

-- the number that A and Q stand for
unfoldable pub long : (a q : ℕ) → ℤ
long a q = val a *ℤ pos (2 ^ 17) +ℤ pos (q % 2 ^ 17)

-- the number is one that a pair stands for: it lies from -(2 ^ 34) to 2 ^ 34 - 1
unfoldable pub fits_long : ℤ → Bool
fits_long n = lies_within (2 ^ 34) n

-- the number that a pair stands for and that is congruent to a whole number modulo 2 ^ 35
unfoldable pub wrap_long : ℤ → ℤ
wrap_long n = let rest = int_rem_euclid n (pos (2 ^ 35)) in if int_lt rest (pos (2 ^ 34)) then rest else (rest -ℤ pos (2 ^ 35))

-- a word's top bit, as its worth: 2 ^ 17 or 0
abbrev pub top_bit : ℕ → ℕ
top_bit w = w / 2 ^ 17 * 2 ^ 17

-- A and Q as a number sets them: A is the word of the number over 2 ^ 17, rounded down;
-- Q has the number's low 17 bits, and A's top bit
unfoldable pub pair : ℤ → ℕ × ℕ
pair n = let a = wrap (shifted_right n 17) in (a, top_bit a + unsigned_abs (int_rem_euclid n (pos (2 ^ 17))))

-- the word of a number's quotient by a word's value, cut off toward zero;
-- nothing where that value is 0 or the quotient doesn't fit
unfoldable pub divided : (n : ℤ) (m : ℕ) → Option ℕ
divided n m = if int_eq (val m) (pos 0) then None else word_of_value (int_div n (val m))
