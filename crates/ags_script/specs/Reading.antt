-- What a line of a script is read as, from the fields that are cut from it.
use Rattle.std.specs.Prelude.{ℕ, Bool, true, false, ◌||◌, ◌==◌, nat_lt, List, [], ◌∷◌, length, slice_index, Option, Some, None, if◌then◌else◌}
use Rattle.std.specs.Option.{option_map}
use Rattle.std.specs.List.{list_all}
use Rattle.ags_text.specs.Field.{is_blank, next_field, behind_field}
use Rattle.ags_deda.specs.declared.keys.Key.{Key}
use Rattle.ags_script.specs.declared.commands.Command.{Command}
use Rattle.ags_script.specs.declared.commands.Command.TheVariants.{Start, Cell, Port, Step, Pulse, Set, Feed, Cycle, ShowReg, ShowCell, ShowOut, ShowDeda}
use Rattle.ags_script.specs.declared.verbs.Verb.{Verb}
use Rattle.ags_script.specs.declared.verbs.Verb.TheVariants as verb
use Rattle.ags_script.specs.declared.verbs.Subject.{Subject}
use Rattle.ags_script.specs.declared.verbs.Subject.TheVariants as subject
use Rattle.ags_script.specs.Operand.{fields_of, octal_of, count_of, verb_named, subject_named, keys_named}
use Rattle.ags_script.specs.Spelling.{LineReading, Skipped, One, Keys, Malformed}

-- there is no field
abbrev pub has_no_field : List (List ℕ) → Bool
has_no_field [] = true
has_no_field (field ∷ others) = false

-- the only field, where there is one and no other
abbrev pub only_field : List (List ℕ) → Option (List ℕ)
only_field [] = None
only_field (field ∷ []) = Some field
only_field (field ∷ other ∷ others) = None

-- what is read of a field, where there is one
abbrev pub read_field : (read : List ℕ → Option ℕ) → Option (List ℕ) → Option ℕ
read_field read None = None
read_field read (Some field) = read field

-- the address, the count or the word that the only field writes
abbrev pub address_operand : List (List ℕ) → Option ℕ
address_operand fields = read_field (octal_of 4) (only_field fields)

abbrev pub count_operand : List (List ℕ) → Option ℕ
count_operand fields = read_field count_of (only_field fields)

abbrev pub word_operand : List (List ℕ) → Option ℕ
word_operand fields = read_field (octal_of 6) (only_field fields)

-- two numbers, where both are some
abbrev pub both_numbers : Option ℕ → Option ℕ → Option (ℕ × ℕ)
both_numbers (Some address) (Some word) = Some (address, word)
both_numbers (Some address) None = None
both_numbers None word = None

-- the address and the word that two fields write, where there is no other
abbrev pub word_operands : List (List ℕ) → Option (ℕ × ℕ)
word_operands [] = None
word_operands (place ∷ fields) = both_numbers (octal_of 4 place) (word_operand fields)

-- a command without operands
abbrev pub bare : Command → List (List ℕ) → Option Command
bare command fields = if has_no_field fields then Some command else None

-- CELL names an erasable cell
abbrev pub erasable_cell : Option (ℕ × ℕ) → Option Command
erasable_cell None = None
erasable_cell (Some operands) = if nat_lt operands.0 2048 then Some (Cell operands.0 operands.1) else None

-- the command of a SHOW with this subject and these fields
abbrev pub subject_command : Option Subject → List (List ℕ) → Option Command
subject_command None fields = None
subject_command (Some subject.Reg) fields = bare ShowReg fields
subject_command (Some subject.Cell) fields = option_map ShowCell (address_operand fields)
subject_command (Some subject.Out) fields = option_map ShowOut (address_operand fields)
subject_command (Some subject.Deda) fields = bare ShowDeda fields

abbrev pub show_command : List (List ℕ) → Option Command
show_command [] = None
show_command (name ∷ fields) = subject_command (subject_named name) fields

-- the command of a verb but KEY with these fields after it
abbrev pub verb_command : Verb → List (List ℕ) → Option Command
verb_command verb.Start fields = option_map Start (address_operand fields)
verb_command verb.Cell fields = erasable_cell (word_operands fields)
verb_command verb.Port fields = option_map (λ operands. Port operands.0 operands.1) (word_operands fields)
verb_command verb.Step fields = option_map Step (count_operand fields)
verb_command verb.Pulse fields = bare Pulse fields
verb_command verb.Set fields = option_map (λ operands. Set operands.0 operands.1) (word_operands fields)
verb_command verb.Key fields = None
verb_command verb.Feed fields = bare Feed fields
verb_command verb.Cycle fields = option_map Cycle (count_operand fields)
verb_command verb.Show fields = show_command fields

-- one command, where there is one
abbrev pub one : Option Command → LineReading
one (Some command) = One command
one None = Malformed

-- one key or more
abbrev pub some_keys : Option (List Key) → LineReading
some_keys None = Malformed
some_keys (Some []) = Malformed
some_keys (Some (first ∷ keys)) = Keys (first ∷ keys)

-- KEY
abbrev pub is_key : Verb → Bool
is_key verb.Key = true
is_key _ = false

-- what is read of a verb and the fields after it
abbrev pub verb_reading : Option Verb → List (List ℕ) → LineReading
verb_reading None fields = Malformed
verb_reading (Some verb) fields = if is_key verb then some_keys (keys_named fields) else one (verb_command verb fields)

-- what a line with fields is read as
unfoldable pub fields_reading : List ℕ → LineReading
fields_reading line = verb_reading (verb_named (next_field line)) (fields_of (behind_field line))

-- what a line is read as
unfoldable pub reading : List ℕ → LineReading
reading line =
    if nat_lt 512 (length line) then Malformed else (
    if list_all is_blank line || slice_index line 0 == 35 then Skipped else fields_reading line)

-- the line is skipped
abbrev pub is_skipped : LineReading → Bool
is_skipped Skipped = true
is_skipped _ = false

-- the one command that a line asks for; a line of keys asks for none, as a skipped or a malformed one
abbrev pub one_command : LineReading → Option Command
one_command (One command) = Some command
one_command _ = None
