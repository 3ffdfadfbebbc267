-- What a line of a bench script is read as.
use Rattle.std.specs.Prelude.{ℕ, nat_lt, List, [], ◌∷◌, length, codes, Option, Some, None, if◌then◌else◌}
use Rattle.std.specs.Option.{option_map, option_or, option_flatten}
use Rattle.ags_text.specs.Field.{next_field, behind_field}
use Rattle.ags_script.specs.Operand.{fields_of, named}
use Rattle.ags_script.specs.Reading as script
use Rattle.ags_benchscript.specs.declared.commands.BenchCommand.{BenchCommand}
use Rattle.ags_benchscript.specs.declared.commands.BenchCommand.TheVariants.{Feed, Detach}
use Rattle.ags_benchscript.specs.declared.verbs.Verb.{Verb}
use Rattle.ags_benchscript.specs.declared.verbs.Verb.TheVariants as verb
use Rattle.ags_benchscript.specs.Command.{bench_command}
use Rattle.ags_benchscript.specs.Spelling.{LineReading, Skipped, One, Malformed}

-- the command of a line that asks for it in a script too
unfoldable pub shared_command : List ℕ → Option BenchCommand
shared_command line = option_flatten (option_map bench_command (script.one_command (script.reading line)))

-- what the first field of a line that names a device is
abbrev pub verb_name : Verb → List ℕ
verb_name verb.Feed = codes "FEED"
verb_name verb.Detach = codes "DETACH"

abbrev pub all_verbs : List Verb
all_verbs = verb.Feed ∷ verb.Detach ∷ []

unfoldable pub verb_named : List ℕ → Option Verb
verb_named text = named verb_name all_verbs text

-- what a verb asks for of the device with a number
abbrev pub verb_command : Verb → ℕ → BenchCommand
verb_command verb.Feed number = Feed number
verb_command verb.Detach number = Detach number

-- the command of a verb and the fields after it
abbrev pub numbered_command : Option Verb → List (List ℕ) → Option BenchCommand
numbered_command None fields = None
numbered_command (Some verb) fields = option_map (verb_command verb) (script.count_operand fields)

-- the command of a line that names a device
unfoldable pub device_command : List ℕ → Option BenchCommand
device_command line = numbered_command (verb_named (next_field line)) (fields_of (behind_field line))

-- one command, where there is one
abbrev pub one : Option BenchCommand → LineReading
one (Some command) = One command
one None = Malformed

-- what a line is read as
unfoldable pub reading : List ℕ → LineReading
reading line =
    if nat_lt 512 (length line) then Malformed else (
    if script.is_skipped (script.reading line) then Skipped else one (option_or (shared_command line) (device_command line)))
