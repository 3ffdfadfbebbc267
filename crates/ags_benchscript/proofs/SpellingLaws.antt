-- A line's reading is what it spells.
use Rattle.std.proofs.Common.{◌≡◌, ℕ, ◌≤◌, true, false, ◌==◌, List, [], ◌∷◌, length, get_or, Option, Some, None, refl, sym, ap, ◌∙◌, inl, inr, codes}
use Rattle.std.specs.List.{list_all}
use Rattle.std.specs.Option.{option_map, option_or, option_flatten}
use Rattle.std.proofs.lemmas.Bool.{cases_Bool, cases_lt, lt-ltb, le-ltb}
use Rattle.ags_text.specs.Field.{is_blank, next_field, behind_field}
use Rattle.ags_text.specs.Numeral.{IsDecimal}
use Rattle.ags_text.proofs.NumberLaws.{number_told, number_written}
use Rattle.ags_script.specs.declared.commands.Command.{Command}
use Rattle.ags_script.specs.declared.commands.Command.TheVariants as script
use Rattle.ags_script.specs.Operand as operand
use Rattle.ags_script.specs.Operand.{fields_of, count_of}
use Rattle.ags_script.specs.Reading as script_reading
use Rattle.ags_script.specs.Spelling as spelling
use Rattle.ags_script.proofs.FieldLemmas.{list_cases, fields_more, blanks_cut}
use Rattle.ags_script.proofs.SpellingLaws as script_law
use Rattle.ags_benchscript.specs.declared.commands.BenchCommand.{BenchCommand}
use Rattle.ags_benchscript.specs.declared.commands.BenchCommand.TheVariants.{Step, Pulse, Cycle, ShowReg, ShowCell, ShowOut, Feed, Detach}
use Rattle.ags_benchscript.specs.declared.verbs.Verb.{Verb}
use Rattle.ags_benchscript.specs.declared.verbs.Verb.TheVariants as verb
use Rattle.ags_benchscript.specs.Command.{bench_command}
use Rattle.ags_benchscript.specs.Reading.{shared_command, verb_name, verb_named, verb_command, numbered_command, device_command, one, reading}
use Rattle.ags_benchscript.specs.Spelling.{LineReading, Skipped, One, Malformed, StatesCount, States, Spells}
use Rattle.ags_benchscript.proofs.VerbLemmas.{verb_tells, verb_finds}

-- ---- lines that a script has too

-- a shared command is stated by the fields that state it in a script
states_shared : (fields : List (List ℕ)) (command : Command) (shared : BenchCommand) → bench_command command ≡ Some shared → spelling.States fields command → States fields shared
states_shared fields (script.Start address) shared is states = absurd cc
states_shared fields (script.Cell address word) shared is states = absurd cc
states_shared fields (script.Port address word) shared is states = absurd cc
states_shared fields (script.Step count) shared is states = let same : Step count ≡ shared = cc in rw (← same) states
states_shared fields script.Pulse shared is states = let same : Pulse ≡ shared = cc in rw (← same) states
states_shared fields (script.Set address word) shared is states = absurd cc
states_shared fields (script.Press pressed) shared is states = absurd cc
states_shared fields script.Feed shared is states = absurd cc
states_shared fields (script.Cycle count) shared is states = let same : Cycle count ≡ shared = cc in rw (← same) states
states_shared fields script.ShowReg shared is states = let same : ShowReg ≡ shared = cc in rw (← same) states
states_shared fields (script.ShowCell address) shared is states = let same : ShowCell address ≡ shared = cc in rw (← same) states
states_shared fields (script.ShowOut address) shared is states = let same : ShowOut address ≡ shared = cc in rw (← same) states
states_shared fields script.ShowDeda shared is states = absurd cc

-- a line of which something holds, holds of its fields
with_other : (line : List ℕ) (Is Other : List (List ℕ) → Type 0) → ((fields : List (List ℕ)) → Is fields → Other fields) → spelling.HasForm line Is → spelling.HasForm line Other
with_other line Is Other on form = record { most = form.most; fields = form.fields; are = form.are; has = form.has; is = on form.fields form.is }

shared_spelled : (line : List ℕ) (command : BenchCommand) → shared_command line ≡ Some command → Spells line (One command)
unfolding shared_command
shared_spelled line command is = by_reading (script_reading.reading line) refl is
  where
    by_reading : (asked : spelling.LineReading) → script_reading.reading line ≡ asked → option_flatten (option_map bench_command (script_reading.one_command asked)) ≡ Some command → Spells line (One command)
    by_reading spelling.Skipped read is = absurd cc
    by_reading (spelling.One asked) read is =
        with_other line (λ fields. spelling.States fields asked) (λ fields. States fields command) (λ (fields : List (List ℕ)) (states : spelling.States fields asked). states_shared fields asked command is states)
        (script_law.read_spelled line (spelling.One asked) read (λ bad. cc))
    by_reading (spelling.Keys keys) read is = absurd cc
    by_reading spelling.Malformed read is = absurd cc

-- ---- lines that name a device

states_numbered : (fields : List (List ℕ)) (one : Verb) (number : ℕ) → StatesCount (verb_name one) fields number → States fields (verb_command one number)
states_numbered fields verb.Feed number states = states
states_numbered fields verb.Detach number states = states

no_verb : verb_named [] ≡ None
unfolding verb_named
no_verb = refl

named_first : (line : List ℕ) (one : Verb) → verb_named (next_field line) ≡ Some one → fields_of line ≡ verb_name one ∷ fields_of (behind_field line)
named_first line one named =
    elim (list_cases (next_field line)) [
      | inl none ↦ absurd (let no : verb_named (next_field line) ≡ None = rw none no_verb in cc)
      | inr first ↦ fields_more line first ∙ ap (λ (name : List ℕ). name ∷ fields_of (behind_field line)) (sym (verb_tells (next_field line) one named))
    ]

numbered_spelled : (line : List ℕ) (one : Verb) (command : BenchCommand) → length line ≤ 512 → fields_of line ≡ verb_name one ∷ fields_of (behind_field line)
    → numbered_command (Some one) (fields_of (behind_field line)) ≡ Some command → Spells line (One command)
numbered_spelled line one command most are is =
    let told = script_law.some_mapped (verb_command one) (script_reading.count_operand (fields_of (behind_field line))) command is in
    let operand = script_law.one_told count_of (fields_of (behind_field line)) told.0 told.1 in
    let whole : fields_of line ≡ verb_name one ∷ operand.field ∷ [] = are ∙ ap (λ (rest : List (List ℕ)). verb_name one ∷ rest) operand.are in
    let states : StatesCount (verb_name one) (fields_of line) told.0 = (operand.field, number_told 10 9 operand.field told.0 operand.is, whole) in
    script_law.form line (λ fields. States fields command) most (rw (told.2) (states_numbered (fields_of line) one told.0 states))

device_spelled : (line : List ℕ) (command : BenchCommand) → length line ≤ 512 → device_command line ≡ Some command → Spells line (One command)
unfolding device_command
device_spelled line command most is = by_verb (verb_named (next_field line)) refl is
  where
    by_verb : (found : Option Verb) → verb_named (next_field line) ≡ found → numbered_command found (fields_of (behind_field line)) ≡ Some command → Spells line (One command)
    by_verb None named is = absurd cc
    by_verb (Some one) named is = numbered_spelled line one command most (named_first line one named) is

-- ---- what is read is spelled

is_skipped : (asked : spelling.LineReading) → script_reading.is_skipped asked ≡ true → asked ≡ spelling.Skipped
is_skipped spelling.Skipped is = refl
is_skipped (spelling.One command) is = absurd cc
is_skipped (spelling.Keys keys) is = absurd cc
is_skipped spelling.Malformed is = absurd cc

either_spelled : (line : List ℕ) → length line ≤ 512 → (shared numbered : Option BenchCommand) → shared_command line ≡ shared → device_command line ≡ numbered
    → (asked : LineReading) → one (option_or shared numbered) ≡ asked → (asked ≡ Malformed → ⊥) → Spells line asked
either_spelled line most (Some command) numbered is other asked read some = rw (← read) (shared_spelled line command is)
either_spelled line most None (Some command) is other asked read some = rw (← read) (device_spelled line command most other)
either_spelled line most None None is other asked read some = absurd (some (sym read))

pub read_spelled : (line : List ℕ) (asked : LineReading) → reading line ≡ asked → (asked ≡ Malformed → ⊥) → Spells line asked
unfolding reading
read_spelled line asked is some =
    elim (cases_lt 512 (length line)) [
      | inl long ↦ absurd (some (let bad = rw (lt-ltb 512 (length line) long) at is in sym bad))
      | inr most ↦
          let short = rw (le-ltb 512 (length line) most) at is in
          elim (cases_Bool (script_reading.is_skipped (script_reading.reading line))) [
            | inl skipped ↦
                let nothing = rw skipped at short in
                rw (← nothing) (script_law.read_spelled line spelling.Skipped (is_skipped (script_reading.reading line) skipped) (λ bad. cc))
            | inr marks ↦
                let fields = rw marks at short in
                either_spelled line most (shared_command line) (device_command line) refl refl asked fields some
          ]
    ]

-- ---- what is spelled is read

shared_read : (line : List ℕ) (command : Command) (shared : BenchCommand) → length line ≤ 512 → bench_command command ≡ Some shared → script_reading.reading line ≡ spelling.One command → reading line ≡ One shared
unfolding reading shared_command
shared_read line command shared most is read = rw (le-ltb 512 (length line) most, read, is) refl

malformed_read : (line : List ℕ) (one : Verb) (digits : List ℕ) (number : ℕ) → length line ≤ 512 → fields_of line ≡ verb_name one ∷ digits ∷ [] → IsDecimal 9 digits number
    → script_reading.reading line ≡ spelling.Malformed → reading line ≡ One (verb_command one number)
unfolding reading shared_command device_command
malformed_read line one digits number most are decimal read =
    let cut = script_law.line_cut line (verb_name one) (digits ∷ []) are in
    rw (le-ltb 512 (length line) most, read, cut.0, cut.1, verb_finds one, number_written 10 9 digits number decimal) refl

-- a line whose first field is no verb of a script is no line of one
no_script_line : (line name : List ℕ) (operands : List (List ℕ)) → length line ≤ 512 → fields_of line ≡ name ∷ operands → (get_or name 0 0 == 35) ≡ false → operand.verb_named name ≡ None
    → script_reading.reading line ≡ spelling.Malformed
unfolding script_reading.reading script_reading.fields_reading
no_script_line line name operands most are no_sign none =
    let cut = script_law.line_cut line name operands are in
    let marks : list_all is_blank line ≡ false = blanks_cut line ∙ ap script_reading.has_no_field are in
    let sign : (get_or line 0 0 == 35) ≡ false = script_law.unsigned line name cut.0 no_sign in
    rw (le-ltb 512 (length line) most, marks, sign, cut.0, none) refl

no_detach : operand.verb_named (codes "DETACH") ≡ None
unfolding operand.verb_named
no_detach = refl

shared_stated : (line : List ℕ) (command : Command) (shared : BenchCommand) → bench_command command ≡ Some shared → spelling.HasForm line (λ fields. spelling.States fields command) → reading line ≡ One shared
shared_stated line command shared is spells = shared_read line command shared spells.most is (script_law.spelled_read line (spelling.One command) spells)

command_read : (line : List ℕ) (command : BenchCommand) → Spells line (One command) → reading line ≡ One command
command_read line (Step count) spells = shared_stated line (script.Step count) (Step count) refl spells
command_read line Pulse spells = shared_stated line script.Pulse Pulse refl spells
command_read line (Cycle count) spells = shared_stated line (script.Cycle count) (Cycle count) refl spells
command_read line ShowReg spells = shared_stated line script.ShowReg ShowReg refl spells
command_read line (ShowCell address) spells = shared_stated line (script.ShowCell address) (ShowCell address) refl spells
command_read line (ShowOut address) spells = shared_stated line (script.ShowOut address) (ShowOut address) refl spells
command_read line (Feed number) spells =
    let is = spells.is in
    let are : fields_of line ≡ codes "FEED" ∷ is.0 ∷ [] = script_law.standing line spells.fields spells.are spells.has ∙ is.2 in
    malformed_read line verb.Feed is.0 number spells.most are is.1 (script_law.feed_alone line is.0 spells.most are)
command_read line (Detach number) spells =
    let is = spells.is in
    let are : fields_of line ≡ codes "DETACH" ∷ is.0 ∷ [] = script_law.standing line spells.fields spells.are spells.has ∙ is.2 in
    malformed_read line verb.Detach is.0 number spells.most are is.1 (no_script_line line (codes "DETACH") (is.0 ∷ []) spells.most are refl no_detach)

skipped_read : (line : List ℕ) → spelling.IsSkipped line → reading line ≡ Skipped
unfolding reading
skipped_read line spells = rw (le-ltb 512 (length line) spells.most, script_law.spelled_read line spelling.Skipped spells) refl

-- each line that spells something is read as that
pub spelled_read : (line : List ℕ) (asked : LineReading) → Spells line asked → reading line ≡ asked
spelled_read line Skipped spells = skipped_read line spells
spelled_read line (One command) spells = command_read line command spells
spelled_read line Malformed spells = absurd spells

pub malformed_spells_nothing : (line : List ℕ) (asked : LineReading) → reading line ≡ Malformed → Spells line asked → ⊥
malformed_spells_nothing line asked is spells = no_malformed asked (sym (spelled_read line asked spells) ∙ is) spells
  where
    no_malformed : (asked : LineReading) → asked ≡ Malformed → Spells line asked → ⊥
    no_malformed Skipped is spells = absurd cc
    no_malformed (One command) is spells = absurd cc
    no_malformed Malformed is spells = spells
