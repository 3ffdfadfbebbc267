-- What a reader keeps of the lines so far, and what it answers for the next.
use Rattle.std.specs.Prelude.{◌≡◌, ℕ, ◌≤◌, List, Some}
use Rattle.ags_ports.specs.declared.machines.Machine.{Machine}
use Rattle.ags_script.specs.Limit.{step_limit}
use Rattle.ags_script.specs.declared.script_errors.ScriptError.{ScriptError}
use Rattle.ags_script.specs.declared.script_errors.ScriptError.TheVariants.{At, NoMemory}
use Rattle.ags_benchscript.specs.declared.commands.BenchCommand.{BenchCommand}
use Rattle.ags_benchscript.specs.declared.reader.Reader.{Reader}
use Rattle.ags_benchscript.specs.Script.{steps_of, reading_fault}
use Rattle.ags_benchscript.specs.Spelling.{LineReading}

-- the steps are those of the reader's commands
pub record IsTally (reader : Reader) : Type 0 where
  pub steps : reader.steps ≡ steps_of reader.asked.items
  pub most : reader.steps ≤ step_limit

-- the error tells the fault of a line's reading after these commands, where it isn't want of memory
abbrev pub TellsFault : Machine → (number : ℕ) → List (ℕ × BenchCommand) → LineReading → ScriptError → Type 0
TellsFault machine number earlier reading (At line kind) = (line ≡ number) × (reading_fault machine earlier reading ≡ Some kind)
TellsFault machine number earlier reading NoMemory = Unit {0}
