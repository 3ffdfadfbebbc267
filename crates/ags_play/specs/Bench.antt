-- The bench that a script is played on, and what it is before the first act.
use Rattle.std.specs.Prelude.{ℕ, List, [], ◌∷◌, Option, Some, None}
use Rattle.ags_core.specs.Core.{start_state}
use Rattle.ags_deda.specs.Happening.{Happening}
use Rattle.ags_domain.specs.declared.values.Value.{Value}
use Rattle.ags_ports.specs.declared.machines.Machine.{Machine}
use Rattle.ags_ports.specs.Port.{position_of, set_at}
use Rattle.ags_ports.specs.State.{State, cells_with_word}
use Rattle.ags_safe.specs.Certificate.{Certificate}
use Rattle.ags_script.specs.declared.commands.Command.{Command}
use Rattle.ags_script.specs.declared.commands.Command.TheVariants.{Start, Cell, Port}

-- The machine's state, what happened to the panel, newest first, and the carry: the microseconds by which the last cycle's
-- last order passed its end.
pub record Bench : Type 0 where
  pub core : State
  pub panel : List Happening
  pub carry : ℕ

-- the state with what a command sets at the start: the location, the word of an erasable cell, or that of an input register
abbrev pub with_setting : Machine → State → Command → State
with_setting machine s (Start address) = record s { location = address }
with_setting machine s (Cell address word) = record s { cells = cells_with_word s.cells address word }
with_setting machine s (Port address word) = record s { inputs = set_at s.inputs (position_of machine.ports.inputs address) word }
with_setting machine s _ = s

-- The state with all that these commands set, in order: what is set later of the same cell or register replaces what was set earlier.
abbrev pub with_settings : Machine → State → List Command → State
with_settings machine s [] = s
with_settings machine s (command ∷ commands) = with_settings machine (with_setting machine s command) commands

-- the location that a script without START begins at: the certificate's, and 4000 octal where there is none
abbrev pub usual_location : Option (Certificate Value) → ℕ
usual_location None = 0o4000
usual_location (Some cert) = cert.start

-- the state before the first act: the image in the cells, and then what the script sets
abbrev pub begun_state : Machine → List (Option ℕ) → Option (Certificate Value) → List Command → State
begun_state machine image guard commands = with_settings machine (start_state machine image (usual_location guard)) commands

-- the bench before the first act: nothing happened to the panel, and no cycle has passed its end
abbrev pub start_bench : Machine → List (Option ℕ) → Option (Certificate Value) → List Command → Bench
start_bench machine image guard commands = record { core = begun_state machine image guard commands; panel = []; carry = 0 }
