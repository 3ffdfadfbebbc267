-- A budget is a list of bounds in microseconds, one for each row; the rows are numbered from 1.
use Rattle.std.specs.Prelude.{ℕ, ◌-◌, ◌≤◌, List, map, slice_index, All, Contains, Option, unwrap_or}

-- the bound of the row with a number
abbrev pub bound_of : List ℕ → ℕ → ℕ
bound_of bounds number = slice_index bounds (number - 1)

-- the greatest of some numbers, of which there is one
pub record IsGreatest (numbers : List ℕ) (greatest : ℕ) : Type 0 where
  pub among : Contains numbers greatest
  pub each : All (λ number. number ≤ greatest) numbers

-- a bound is at least 1 and at most the cycle's 20,000
pub record IsTime (bound : ℕ) : Type 0 where
  pub some : 1 ≤ bound
  pub most : bound ≤ 20000

-- the bounds of rows where some are stated: a row of which none is stated has the whole cycle
abbrev pub bounds_where : List (Option ℕ) → List ℕ
bounds_where stated = map (λ bound. unwrap_or bound 20000) stated
