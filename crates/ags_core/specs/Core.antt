-- The core: what it holds between two calls, and the state that it begins in.
use Rattle.std.specs.Prelude.{◌≡◌, ℕ, ◌<◌, false, List, Option, length, map, replicate, unwrap_or}
use Rattle.ags_ports.specs.declared.events.Phase.TheVariants.{Running}
use Rattle.ags_ports.specs.declared.machines.Machine.{Machine}
use Rattle.ags_ports.specs.State.{State}

-- an index register and a location are in their ranges, and there are 4096 cells
pub record AreHeld (index_register address : ℕ) (words : List ℕ) : Type 0 where
  pub index : index_register < 8
  pub location : address < 4096
  pub cells : length words ≡ 4096

-- what is so of every core: it holds such
abbrev pub IsCore : State → Type 0
IsCore s = AreHeld s.index s.location s.cells

-- the words that an image puts into the cells: each location's word, and 0 where it has none
abbrev pub cells_of : List (Option ℕ) → List ℕ
cells_of image = map (λ entry. unwrap_or entry 0) image

-- the state that a machine begins in, with an image in its cells and the first order at a location
abbrev pub start_state : Machine → List (Option ℕ) → ℕ → State
start_state machine image start = record {
  a = 0;
  q = 0;
  index = 0;
  indicator = false;
  location = start;
  phase = Running;
  cells = cells_of image;
  inputs = replicate (length machine.ports.inputs) 0;
  outputs = replicate (length machine.ports.outputs) 0;
}
