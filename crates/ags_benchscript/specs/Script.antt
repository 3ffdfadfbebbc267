-- What a bench script means for a machine: the commands that its lines spell, or its first fault.
use Rattle.std.specs.Prelude.{◌≡◌, ℕ, ◌+◌, Bool, nat_lt, if◌then◌else◌, List, [], ◌∷◌, ◌++◌, reverse, Option, Some, None, sum_by}
use Rattle.ags_text.specs.Fault.{first_fault}
use Rattle.ags_text.specs.Line.{LineAt, lines_of}
use Rattle.ags_ports.specs.declared.machines.Machine.{Machine}
use Rattle.ags_script.specs.Limit.{step_limit}
use Rattle.ags_script.specs.declared.script_errors.ScriptKind.{ScriptKind}
use Rattle.ags_script.specs.declared.script_errors.ScriptKind.TheVariants.{BadLine, NoPort, TooManySteps}
use Rattle.ags_script.specs.declared.script_errors.ScriptError.{ScriptError}
use Rattle.ags_script.specs.declared.script_errors.ScriptError.TheVariants.{At, NoMemory}
use Rattle.ags_benchscript.specs.declared.commands.BenchCommand.{BenchCommand}
use Rattle.ags_benchscript.specs.Command.{step_count, lacks_port}
use Rattle.ags_benchscript.specs.Reading.{reading}
use Rattle.ags_benchscript.specs.Spelling.{LineReading, Skipped, One, Malformed}

-- what a line's reading asks for, with the line's number
abbrev pub asked_in : (number : ℕ) → LineReading → List (ℕ × BenchCommand)
asked_in number Skipped = []
asked_in number (One command) = (number, command) ∷ []
asked_in number Malformed = []

-- what lines ask for, in order, each with its number, where the first has this one
unfoldable pub asked_from : (number : ℕ) → List LineAt → List (ℕ × BenchCommand)
asked_from number [] = []
asked_from number (line ∷ lines) = asked_in number (reading line.bytes) ++ asked_from (number + 1) lines

-- the commands of all lines of a text, each with its line's number, counted from 1
abbrev pub asked_of : List LineAt → List (ℕ × BenchCommand)
asked_of lines = asked_from 1 lines

-- the steps that commands count for
abbrev pub steps_of : List (ℕ × BenchCommand) → ℕ
steps_of asked = sum_by (λ (line : ℕ × BenchCommand). step_count line.1) asked

-- with this command the steps of all so far are more than 100,000,000
abbrev pub exceeds_steps : (earlier : List (ℕ × BenchCommand)) → BenchCommand → Bool
exceeds_steps earlier command = nat_lt step_limit (steps_of earlier + step_count command)

-- the fault of a command after these earlier ones: the first of the two that it has
abbrev pub command_fault : Machine → (earlier : List (ℕ × BenchCommand)) → BenchCommand → Option ScriptKind
command_fault machine earlier command =
    if lacks_port machine command then Some NoPort else (
    if exceeds_steps earlier command then Some TooManySteps else None)

-- the fault of a line's reading there
abbrev pub reading_fault : Machine → (earlier : List (ℕ × BenchCommand)) → LineReading → Option ScriptKind
reading_fault machine earlier Skipped = None
reading_fault machine earlier (One command) = command_fault machine earlier command
reading_fault machine earlier Malformed = Some BadLine

-- the fault of a line, where these lines stand before it, nearest first
abbrev pub line_fault : Machine → (before : List LineAt) → LineAt → Option ScriptKind
line_fault machine before line = reading_fault machine (asked_of (reverse before)) (reading line.bytes)

-- The text is a bench script for the machine without a fault, and these are the commands that its lines spell, in order, each
-- with its line's number.
pub record IsScript (machine : Machine) (text : List ℕ) (asked : List (ℕ × BenchCommand)) : Type 0 where
  pub faultless : first_fault (line_fault machine) [] (lines_of text) ≡ None
  pub asked_are : asked ≡ asked_of (lines_of text)

-- the text is a bench script for the machine whose first faulty line is this one, counted from 1, with this fault
pub record IsFaultyScript (machine : Machine) (text : List ℕ) (line : ℕ) (kind : ScriptKind) : Type 0 where
  pub first : first_fault (line_fault machine) [] (lines_of text) ≡ Some (line, kind)

-- why a text was not read, where it was not want of memory
abbrev pub IsRefused : Machine → List ℕ → ScriptError → Type 0
IsRefused machine text (At line kind) = IsFaultyScript machine text line kind
IsRefused machine text NoMemory = Unit {0}

-- The commands were read for this machine: they are those of some bench script for it.
pub record IsReadFor (machine : Machine) (asked : List (ℕ × BenchCommand)) : Type 0 where
  pub text : List ℕ
  pub is_script : IsScript machine text asked
