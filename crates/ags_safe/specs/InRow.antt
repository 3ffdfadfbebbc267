-- Which states are in a row, and in a case.
use Rattle.std.specs.Prelude.{◌≡◌, ℕ, ◌<◌, ◌≤◌, true, List, Option, Some, IfSome}
use Rattle.ags_domain.specs.Domain.{Meaning}
use Rattle.ags_image.specs.Image.{word_at}
use Rattle.ags_ports.specs.declared.machines.Machine.{Machine}
use Rattle.ags_ports.specs.declared.events.Phase.TheVariants.{Running}
use Rattle.ags_ports.specs.Port.{position_of, register_at}
use Rattle.ags_ports.specs.State.{State, cell, word_here}
use Rattle.ags_row.specs.Flag.{has_flag, indicator_number}
use Rattle.ags_row.specs.Limit.{Limiting, cell_limit, input_limit}
use Rattle.ags_row.specs.Cover.{cell_value}
use Rattle.ags_row.specs.declared.rows.Row.{Row}
use Rattle.ags_safe.specs.Case.{Case}
use Rattle.ags_safe.specs.Linked.{LinkHolds}

-- each fixed cell holds the image's word, and 0 where it has none
abbrev pub HasFixedWords : List (Option ℕ) → State → Type 0
HasFixedWords image s = (address : ℕ) → 2048 ≤ address → address < 4096 → cell s address ≡ word_at image address

-- The state is in the row: it stands at the row's location, A and Q are held, the index and the indicator may stand, each fixed cell
-- holds the image's word, each erasable one what the row says, or else its limit, and the row's link holds, if it has one.
pub record IsInRow {D : Type 0} (meaning : Meaning D) (image : List (Option ℕ)) (limits : Limiting D) (row : Row D) (s : State) : Type 0 where
  pub location : s.location ≡ row.location
  pub a : meaning.held row.a s.a ≡ true
  pub q : meaning.held row.q s.q ≡ true
  pub index : has_flag row.x s.index ≡ true
  pub indicator : has_flag row.v (indicator_number s.indicator) ≡ true
  pub fixed : HasFixedWords image s
  pub cells : (address : ℕ) → address < 2048 → meaning.held (cell_value row limits address) (cell s address) ≡ true
  pub link : IfSome row.link (LinkHolds s)

-- each input register holds a word of its limit
abbrev pub AreInputsHeld : {D : Type 0} → Meaning D → Machine → Limiting D → State → Type 0
AreInputsHeld meaning machine limits s = (address position : ℕ) → position_of machine.ports.inputs address ≡ Some position
    → meaning.held (input_limit limits address) (register_at s.inputs (Some position)) ≡ true

-- The state is one of the case: orders run, it is in the row, the word at its location, its index and its indicator are the case's,
-- and its inputs are held.
pub record IsInCase {D : Type 0} (meaning : Meaning D) (c : Case D) (s : State) : Type 0 where
  pub running : s.phase ≡ Running
  pub in_row : IsInRow meaning c.image c.limits c.row s
  pub word : word_here s ≡ c.word
  pub index : s.index ≡ c.index
  pub indicator : s.indicator ≡ c.indicator
  pub inputs : AreInputsHeld meaning c.machine c.limits s

-- each erasable cell holds a word of its limit
abbrev pub AreCellsInLimits : {D : Type 0} → Meaning D → Limiting D → State → Type 0
AreCellsInLimits meaning limits s = (address : ℕ) → address < 2048 → meaning.held (cell_limit limits address) (cell s address) ≡ true
