-- What value stands at a position of a line.
use Rattle.std.specs.Prelude.{ℕ, ◌≤◌, List, length, drop, Some}
use Rattle.ags_domain.specs.declared.values.Value.{Value}
use Rattle.ags_certtext.specs.Front.{AreAtFront}
use Rattle.ags_certtext.specs.Spelling.{StateValue}

-- A value stands in the line from one position to another: the fields from the one to the other state it.
pub record StandsAt (line : List ℕ) (from : ℕ) (value : Value) (behind : ℕ) : Type 0 where
  pub within : behind ≤ length line
  pub taken : List (List ℕ)
  pub front : AreAtFront taken (drop from line) (drop behind line)
  pub value_is : StateValue taken (Some value)

-- it stands there, and no longer one does
pub record IsLongestAt (line : List ℕ) (from : ℕ) (value : Value) (behind : ℕ) : Type 0 where
  pub stands : StandsAt line from value behind
  pub longest : (other : Value) (further : ℕ) → StandsAt line from other further → further ≤ behind
