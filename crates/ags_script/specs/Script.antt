-- What a script means for a machine: the commands that its lines spell, or its first fault.
use Rattle.std.specs.Prelude.{◌≡◌, ℕ, ◌+◌, Bool, not, ◌&&◌, ◌||◌, nat_lt, if◌then◌else◌, List, [], ◌∷◌, map, reverse, Option, Some, None, sum_by}
use Rattle.std.specs.List.{list_any, flat_map}
use Rattle.ags_text.specs.Fault.{first_fault}
use Rattle.ags_text.specs.Line.{LineAt, lines_of}
use Rattle.ags_ports.specs.declared.machines.Machine.{Machine}
use Rattle.ags_script.specs.Limit.{step_limit}
use Rattle.ags_script.specs.declared.commands.Command.{Command}
use Rattle.ags_script.specs.declared.commands.Command.TheVariants.{Press}
use Rattle.ags_script.specs.declared.script_errors.ScriptKind.{ScriptKind}
use Rattle.ags_script.specs.declared.script_errors.ScriptKind.TheVariants.{BadLine, NoPort, TooManySteps}
use Rattle.ags_script.specs.declared.script_errors.ScriptError.{ScriptError}
use Rattle.ags_script.specs.declared.script_errors.ScriptError.TheVariants.{At, NoMemory}
use Rattle.ags_script.specs.Command.{is_start, is_setting, step_count, lacks_port}
use Rattle.ags_script.specs.Reading.{reading}
use Rattle.ags_script.specs.Spelling.{LineReading, Skipped, One, Keys, Malformed}

-- the commands of a line's reading: a line of keys has one press for each
abbrev pub commands_in : LineReading → List Command
commands_in Skipped = []
commands_in (One command) = command ∷ []
commands_in (Keys keys) = map Press keys
commands_in Malformed = []

-- the commands of lines, in order
abbrev pub commands_of : List LineAt → List Command
commands_of lines = flat_map (λ line. commands_in (reading line.bytes)) lines

-- A command is out of place after these earlier ones: START, CELL or PORT after any other, or START a second time.
abbrev pub is_misplaced : (earlier : List Command) → Command → Bool
is_misplaced earlier command = (is_setting command && list_any (λ other. not (is_setting other)) earlier) || (is_start command && list_any is_start earlier)

-- with this command the steps of all so far are too many
abbrev pub exceeds_steps : (earlier : List Command) → Command → Bool
exceeds_steps earlier command = nat_lt step_limit (sum_by step_count earlier + step_count command)

-- the fault of a command after these earlier ones: the first of the three that it has
abbrev pub command_fault : Machine → (earlier : List Command) → Command → Option ScriptKind
command_fault machine earlier command =
    if is_misplaced earlier command then Some BadLine else (
    if lacks_port machine command then Some NoPort else (
    if exceeds_steps earlier command then Some TooManySteps else None))

-- the fault of a line's reading there
abbrev pub reading_fault : Machine → (earlier : List Command) → LineReading → Option ScriptKind
reading_fault machine earlier Skipped = None
reading_fault machine earlier (One command) = command_fault machine earlier command
reading_fault machine earlier (Keys keys) = None
reading_fault machine earlier Malformed = Some BadLine

-- the fault of a line, where these lines stand before it, nearest first
abbrev pub line_fault : Machine → (before : List LineAt) → LineAt → Option ScriptKind
line_fault machine before line = reading_fault machine (commands_of (reverse before)) (reading line.bytes)

-- The text is a script for the machine without a fault, and these are the commands that its lines spell, in order.
pub record IsScript (machine : Machine) (text : List ℕ) (commands : List Command) : Type 0 where
  pub faultless : first_fault (line_fault machine) [] (lines_of text) ≡ None
  pub commands_are : commands ≡ commands_of (lines_of text)

-- the text is a script for the machine whose first faulty line is this one, counted from 1, with this fault
pub record IsFaultyScript (machine : Machine) (text : List ℕ) (line : ℕ) (kind : ScriptKind) : Type 0 where
  pub first : first_fault (line_fault machine) [] (lines_of text) ≡ Some (line, kind)

-- why a text was not read, where it was not want of memory
abbrev pub IsRefused : Machine → List ℕ → ScriptError → Type 0
IsRefused machine text (At line kind) = IsFaultyScript machine text line kind
IsRefused machine text NoMemory = Unit {0}

-- The commands were read for this machine: they are those of some script for it.
pub record IsReadFor (machine : Machine) (commands : List Command) : Type 0 where
  pub text : List ℕ
  pub is_script : IsScript machine text commands
