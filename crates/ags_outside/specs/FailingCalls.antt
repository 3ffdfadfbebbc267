-- Calls of which some fail, by their numbers.
use Rattle.std.specs.Prelude.{ℕ, ◌+◌, ◌-◌, ◌^◌, Bool, ◌==◌, min, List}
use Rattle.std.specs.List.{list_any}

-- how many calls were made, and the numbers of those that fail, the first call being number 1
pub record Calls : Type 0 where
  pub made : ℕ
  pub failing : List ℕ

-- the number of the next call, where so many were made, up to the last value of a counter
abbrev pub next_call : ℕ → ℕ
next_call made = min (made + 1) (2 ^ 64 - 1)

-- a call's number is among those that fail
abbrev pub is_failing : (failing : List ℕ) (call : ℕ) → Bool
is_failing failing call = list_any (λ (other : ℕ). other == call) failing

-- the next call is one that fails
abbrev pub fails_next : Calls → Bool
fails_next calls = is_failing calls.failing (next_call calls.made)
