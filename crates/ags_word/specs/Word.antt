-- A word is a number below 2 ^ 18. Here stand its value as a signed number, the numbers that are values of a word,
-- and the word that is left of any whole number.
use Rattle.std.specs.Prelude.{◌≡◌, ℕ, ◌^◌, Bool, ◌&&◌, ℤ, pos, ◌+ℤ◌, ◌-ℤ◌, ◌*ℤ◌, neg_ℤ, nat_lt, int_lt, unsigned_abs, Option, Some, None, if◌then◌else◌}
use Rattle.std.specs.Int.{int_rem_euclid}
use Rattle.std.specs.Int.RustNames.{int_le}

-- a word's value: its number below 2 ^ 17, and its number less 2 ^ 18 from there on
unfoldable pub val : ℕ → ℤ
val w = if nat_lt w (2 ^ 17) then pos w else (pos w -ℤ pos (2 ^ 18))

-- the number lies from -half to half - 1
abbrev pub lies_within : ℕ → ℤ → Bool
lies_within half n = int_le (neg_ℤ (pos half)) n && int_lt n (pos half)

-- the number is the value of a word: it lies from -(2 ^ 17) to 2 ^ 17 - 1
unfoldable pub fits : ℤ → Bool
fits n = lies_within (2 ^ 17) n

-- the word that is congruent to a whole number modulo 2 ^ 18
unfoldable pub wrap : ℤ → ℕ
wrap n = unsigned_abs (int_rem_euclid n (pos (2 ^ 18)))

-- the word of a value, and nothing for a number that doesn't fit
unfoldable pub word_of_value : ℤ → Option ℕ
word_of_value n = if fits n then Some (wrap n) else None

-- two whole numbers differ by a multiple of a third
pub record IsCongruent (modulus : ℕ) (m n : ℤ) : Type 0 where
  pub times : ℤ
  pub differ : m ≡ n +ℤ times *ℤ pos modulus
