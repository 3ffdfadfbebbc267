-- The commands, by the arguments of a command line: a verb, the names of files after it, and, last, the name of a machine file
-- where one is given; and the workload, by its verb and its size.
use Rattle.std.specs.Prelude.{◌≡◌, ℕ, ◌≤◌, ◌==◌, ◌&&◌, nat_le, List, [], ◌∷◌, ◌++◌, slice_index, Option, Some, None, codes, if◌then◌else◌}
use Rattle.std.specs.Fmt.{decimal}
use Rattle.std.specs.Option.{option_map}
use Rattle.std.specs.Str.{bytes_eq}
use Rattle.ags_text.specs.Numeral.{number_of}
use Rattle.ags_command.specs.declared.source_texts.SourceText.{SourceText}
use Rattle.ags_command.specs.declared.source_texts.SourceText.TheVariants.{Listing, Tape, CrossReference}

-- what is done
pub data Command : Type 0 where
  -- this text of the source of this name
  Write : (text : SourceText) (source : List ℕ) → Command
  -- whether the words of the source of this name are those of that listing
  Compare : (source listing : List ℕ) → Command
  -- whether the certificate of this name is accepted for the words of that source
  Certify : (source certificate : List ℕ) → Command
  -- what the script of this name shows of the machine that begins with the words of that source
  Run : (source script : List ℕ) → Command
  -- the same with the certificate of that name as its guard, where it is accepted for those words
  Guard : (source script certificate : List ℕ) → Command
  -- whether the bounds of the text of times of that name are kept, where the certificate is accepted for the words of that source
  Budget : (source certificate times : List ℕ) → Command
  -- whether the scales of the text of scales of that name agree, where the certificate is accepted for the words of that source
  Scales : (source certificate scales : List ℕ) → Command
  -- what comes of the edits of the text of edits of that name, made of the certificate and the words of that source
  Edits : (source certificate edits : List ℕ) → Command

-- What a command line asks for: a command, and the name of the file of the machine that it is for, or nothing, where it is for
-- the standard machine.
pub record CommandLine : Type 0 where
  pub command : Command
  pub machine : Option (List ℕ)

-- the verb that asks for a text of a source
abbrev pub verb_of : SourceText → List ℕ
verb_of Listing = codes "assemble"
verb_of Tape = codes "tape"
verb_of CrossReference = codes "xref"

-- the arguments that ask for a command on the standard machine
abbrev pub arguments_of : Command → List (List ℕ)
arguments_of (Write text source) = verb_of text ∷ source ∷ []
arguments_of (Compare source listing) = codes "compare" ∷ source ∷ listing ∷ []
arguments_of (Certify source certificate) = codes "certify" ∷ source ∷ certificate ∷ []
arguments_of (Run source script) = codes "run" ∷ source ∷ script ∷ []
arguments_of (Guard source script certificate) = codes "guard" ∷ source ∷ script ∷ certificate ∷ []
arguments_of (Budget source certificate times) = codes "budget" ∷ source ∷ certificate ∷ times ∷ []
arguments_of (Scales source certificate scales) = codes "scales" ∷ source ∷ certificate ∷ scales ∷ []
arguments_of (Edits source certificate edits) = codes "edits" ∷ source ∷ certificate ∷ edits ∷ []

-- the argument that names a machine file, where one is named
abbrev pub machine_argument : Option (List ℕ) → List (List ℕ)
machine_argument None = []
machine_argument (Some name) = name ∷ []

-- the arguments of a command line: those of its command, and the machine file's after them
abbrev pub line_arguments : CommandLine → List (List ℕ)
line_arguments line = arguments_of line.command ++ machine_argument line.machine

-- a command with what stands after its names: nothing, or a machine file's name
abbrev pub line_with : Command → List (List ℕ) → Option CommandLine
line_with command [] = Some (record { command = command; machine = None })
line_with command (machine ∷ []) = Some (record { command = command; machine = Some machine })
line_with command _ = None

-- a command of one name
abbrev pub one_name : (List ℕ → Command) → List (List ℕ) → Option CommandLine
one_name command (name ∷ behind) = line_with (command name) behind
one_name command _ = None

-- a command of two names
abbrev pub two_names : (List ℕ → List ℕ → Command) → List (List ℕ) → Option CommandLine
two_names command (name ∷ other ∷ behind) = line_with (command name other) behind
two_names command _ = None

-- a command of three names
abbrev pub three_names : (List ℕ → List ℕ → List ℕ → Command) → List (List ℕ) → Option CommandLine
three_names command (name ∷ other ∷ third ∷ behind) = line_with (command name other third) behind
three_names command _ = None

-- A form: a verb, and what the names after it ask for.
pub record Form : Type 0 where
  pub verb : List ℕ
  pub line_of : List (List ℕ) → Option CommandLine

-- the form of a text of a source
abbrev pub form_of : SourceText → Form
form_of text = record { verb = verb_of text; line_of = one_name (Write text) }

-- the forms, one for each command
abbrev pub forms : List Form
forms =
    form_of Listing
    ∷ record { verb = codes "compare"; line_of = two_names Compare }
    ∷ form_of Tape
    ∷ form_of CrossReference
    ∷ record { verb = codes "certify"; line_of = two_names Certify }
    ∷ record { verb = codes "run"; line_of = two_names Run }
    ∷ record { verb = codes "guard"; line_of = three_names Guard }
    ∷ record { verb = codes "budget"; line_of = three_names Budget }
    ∷ record { verb = codes "scales"; line_of = three_names Scales }
    ∷ record { verb = codes "edits"; line_of = three_names Edits }
    ∷ []

-- what a verb and the names after it ask for, by the form of that verb
abbrev pub line_named : List Form → (verb : List ℕ) (names : List (List ℕ)) → Option CommandLine
line_named [] verb names = None
line_named (form ∷ others) verb names = if bytes_eq verb form.verb then form.line_of names else line_named others verb names

-- what a command line asks for, by its arguments, and nothing where they are none of the forms
abbrev pub line_of : List (List ℕ) → Option CommandLine
line_of [] = None
line_of (verb ∷ names) = line_named forms verb names

-- What is asked for: a command on a machine, or the workload of a size, which is for the standard machine.
pub data Asked : Type 0 where
  OnMachine : (line : CommandLine) → Asked
  Workload : (size : ℕ) → Asked

-- the verb that asks for a workload
abbrev pub workload_verb : List ℕ
workload_verb = codes "workload"

-- what is asked for can be: the size of a workload is from 1 to 400
abbrev pub IsAsked : Asked → Type 0
IsAsked (OnMachine line) = Unit {0}
IsAsked (Workload size) = (1 ≤ size) × (size ≤ 400)

-- the arguments that ask for it; a size stands in decimal digits without a leading zero
abbrev pub asked_arguments : Asked → List (List ℕ)
asked_arguments (OnMachine line) = line_arguments line
asked_arguments (Workload size) = workload_verb ∷ decimal size ∷ []

-- a number, where it is a size
abbrev pub size_within : Option ℕ → Option ℕ
size_within None = None
size_within (Some number) = if nat_le 1 number && nat_le number 400 then Some number else None

-- the size that a text writes: decimal digits, of which the first isn't a zero
abbrev pub size_of : (text : List ℕ) → Option ℕ
size_of text = if slice_index text 0 == 48 then None else size_within (number_of 10 9 text)

-- what the names after the workload's verb ask for: one size
abbrev pub workload_of : List (List ℕ) → Option Asked
workload_of (text ∷ []) = option_map Workload (size_of text)
workload_of _ = None

-- what a verb and the names after it ask for
abbrev pub asked_named : (verb : List ℕ) (names : List (List ℕ)) → Option Asked
asked_named verb names = if bytes_eq verb workload_verb then workload_of names else option_map OnMachine (line_named forms verb names)

-- what is asked for, by the arguments, and nothing where they are none of the forms
abbrev pub asked_of : List (List ℕ) → Option Asked
asked_of [] = None
asked_of (verb ∷ names) = asked_named verb names

-- the arguments are none of the forms
abbrev pub AreNoForm : List (List ℕ) → Type 0
AreNoForm arguments = (asked : Asked) → IsAsked asked → arguments ≡ asked_arguments asked → ⊥
