-- How large a number is.
use Rattle.std.specs.Prelude.{ℕ, ℤ, pos, neg_ℤ, ◌≤ℤ◌}

-- a number of that size at most, of either sign
pub record IsAtMost (size : ℕ) (value : ℤ) : Type 0 where
  pub least : neg_ℤ (pos size) ≤ℤ value
  pub most : value ≤ℤ pos size
