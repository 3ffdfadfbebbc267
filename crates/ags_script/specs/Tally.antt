-- What a reader keeps of the lines so far, and what it answers for the next.
use Rattle.std.specs.Prelude.{◌≡◌, ℕ, ◌≤◌, not, List, Some, sum_by}
use Rattle.std.specs.List.{list_any}
use Rattle.ags_ports.specs.declared.machines.Machine.{Machine}
use Rattle.ags_script.specs.Limit.{step_limit}
use Rattle.ags_script.specs.declared.commands.Command.{Command}
use Rattle.ags_script.specs.declared.reader.Reader.{Reader}
use Rattle.ags_script.specs.declared.script_errors.ScriptError.{ScriptError}
use Rattle.ags_script.specs.declared.script_errors.ScriptError.TheVariants.{At, NoMemory}
use Rattle.ags_script.specs.Command.{is_start, is_setting, step_count}
use Rattle.ags_script.specs.Script.{reading_fault}
use Rattle.ags_script.specs.Spelling.{LineReading}

-- the steps of the reader's commands, and whether one of them is a START, and one no setting
pub record IsTally (reader : Reader) : Type 0 where
  pub steps : reader.steps ≡ sum_by step_count reader.commands.items
  pub started : reader.started ≡ list_any is_start reader.commands.items
  pub begun : reader.begun ≡ list_any (λ command. not (is_setting command)) reader.commands.items
  pub most : reader.steps ≤ step_limit

-- the error tells the fault of a line's reading after these commands, where it isn't want of memory
abbrev pub TellsFault : Machine → (number : ℕ) → List Command → LineReading → ScriptError → Type 0
TellsFault machine number earlier reading (At line kind) = (line ≡ number) × (reading_fault machine earlier reading ≡ Some kind)
TellsFault machine number earlier reading NoMemory = Unit {0}
