-- What the commands of a script are, and which of them a machine can't play.
use Rattle.std.specs.Prelude.{ℕ, ◌*◌, Bool, true, false, is_none}
use Rattle.ags_ports.specs.declared.machines.Machine.{Machine}
use Rattle.ags_ports.specs.Port.{position_of}
use Rattle.ags_script.specs.declared.commands.Command.{Command}
use Rattle.ags_script.specs.declared.commands.Command.TheVariants.{Start, Cell, Port, Step, Set, Feed, Cycle, ShowOut}
use Rattle.ags_script.specs.Limit.{cycle_steps}

-- START
abbrev pub is_start : Command → Bool
is_start (Start address) = true
is_start _ = false

-- what the machine begins with: START, CELL or PORT
abbrev pub is_setting : Command → Bool
is_setting (Start address) = true
is_setting (Cell address word) = true
is_setting (Port address word) = true
is_setting _ = false

-- how many steps a command counts for: a cycle for 20,000
abbrev pub step_count : Command → ℕ
step_count (Step count) = count
step_count (Cycle count) = cycle_steps * count
step_count _ = 0

-- The machine lacks the register that the command names: an input register for PORT and SET, an output register for
-- SHOW OUT, and for FEED the input register that the panel's digits go to.
abbrev pub lacks_port : Machine → Command → Bool
lacks_port machine (Port address word) = is_none (position_of machine.ports.inputs address)
lacks_port machine (Set address word) = is_none (position_of machine.ports.inputs address)
lacks_port machine (ShowOut address) = is_none (position_of machine.ports.outputs address)
lacks_port machine Feed = is_none (position_of machine.ports.inputs machine.deda_in)
lacks_port machine _ = false
