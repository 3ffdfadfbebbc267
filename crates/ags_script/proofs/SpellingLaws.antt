-- A line's reading is what it spells.
use Rattle.std.proofs.Common.{◌≡◌, ℕ, zero, suc, ◌<◌, ◌≤◌, Bool, true, false, ◌||◌, ◌==◌, List, [], ◌∷◌, length, get_or, Option, Some, None, refl, sym, ap, ◌∙◌, inl, inr, ◌⊎◌, arith, codes, if◌then◌else◌}
use Rattle.std.specs.List.{list_all}
use Rattle.std.specs.Option.{option_map}
use Rattle.std.proofs.lemmas.Bool.{cases_Bool, cases_lt, eqb-true, lt-ltb, le-ltb}
use Rattle.ags_text.specs.Field.{is_blank, AreBlanks, AreFields, AreSome, HasFields, next_field, behind_field, AreCut}
use Rattle.ags_text.proofs.FieldLaws.{standing_cut, cut_standing, blanks_none, none_blank, first_byte}
use Rattle.ags_text.proofs.NumberLaws.{number_told, number_written}
use Rattle.ags_deda.specs.declared.keys.Key.{Key}
use Rattle.ags_script.specs.declared.commands.Command.{Command}
use Rattle.ags_script.specs.declared.commands.Command.TheVariants.{Start, Cell, Port, Step, Pulse, Set, Press, Feed, Cycle, ShowReg, ShowCell, ShowOut, ShowDeda}
use Rattle.ags_script.specs.declared.verbs.Verb.{Verb}
use Rattle.ags_script.specs.declared.verbs.Verb.TheVariants as verb
use Rattle.ags_script.specs.declared.verbs.Subject.{Subject}
use Rattle.ags_script.specs.declared.verbs.Subject.TheVariants as subject
use Rattle.ags_script.specs.Operand.{fields_of, octal_of, count_of, verb_name, verb_named, subject_name, subject_named, key_named, keys_named, with_key}
use Rattle.ags_script.specs.Reading.{has_no_field, only_field, read_field, address_operand, count_operand, word_operand, both_numbers, word_operands, bare, erasable_cell, subject_command, show_command, verb_command, one, some_keys, is_key, verb_reading, fields_reading, reading}
use Rattle.ags_script.specs.Spelling.{LineReading, Skipped, One, Keys, Malformed, AreKeyNames, States, StatesKeys, IsSkipped, HasForm, Spells}
use Rattle.ags_script.proofs.FieldLemmas.{list_cases, none_short, nothing_next, behind_shorter, fields_none, fields_more, blanks_cut}
use Rattle.ags_script.proofs.NameLemmas.{verb_tells, verb_finds, subject_tells, subject_finds, key_tells, key_finds}
use Rattle.ags_script.proofs.NumberLemmas.{octal_tells, octal_finds}

-- ---- the fields that are cut are those that stand in a line

-- as many fields as are cut
cut_up_to : (n : ℕ) (text : List ℕ) → length text ≤ n → AreSome (fields_of text) × AreCut (fields_of text) text
cut_up_to zero text short =
    let none : next_field text ≡ [] = rw (none_short text short) nothing_next in
    rw (fields_none text none) (tt, none_blank text none)
cut_up_to (suc n) text short =
    elim (list_cases (next_field text)) [
      | inl none ↦ rw (fields_none text none) (tt, none_blank text none)
      | inr some ↦
          let shorter : length (behind_field text) < length text = behind_shorter text some in
          let rest = cut_up_to n (behind_field text) (omega arith) in
          rw (fields_more text some) ((some, rest.0), (refl, rest.1))
    ]

-- fields that are cut are the ones
cut_one : (text : List ℕ) (one other : List (List ℕ)) → AreSome one → AreSome other → AreCut one text → AreCut other text → one ≡ other
cut_one text [] [] some others is that = refl
cut_one text [] (field ∷ other) some others is that = absurd (let none : next_field text ≡ [] = (blanks_none text is).0 in omega (arith, others.0, ap length (sym that.0 ∙ none)))
cut_one text (field ∷ one) [] some others is that = absurd (let none : next_field text ≡ [] = (blanks_none text that).0 in omega (arith, some.0, ap length (sym is.0 ∙ none)))
cut_one text (field ∷ one) (second ∷ other) some others is that =
    let same : field ≡ second = sym is.0 ∙ that.0 in
    let rest : one ≡ other = cut_one (behind_field text) one other some.1 others.1 is.1 that.1 in
    cc

are_some : (fields : List (List ℕ)) → AreFields fields → AreSome fields
are_some [] are = tt
are_some (field ∷ fields) are = (are.0.some, are_some fields are.1)

-- the fields that stand in a line
pub standing : (line : List ℕ) (fields : List (List ℕ)) → AreFields fields → HasFields line fields → fields_of line ≡ fields
standing line fields are has =
    let cut = cut_up_to (length line) line (omega arith) in
    cut_one line (fields_of line) fields cut.0 (are_some fields are) cut.1 (standing_cut line fields are has)

stand : (line : List ℕ) → AreFields (fields_of line) × HasFields line (fields_of line)
stand line = let cut = cut_up_to (length line) line (omega arith) in cut_standing line (fields_of line) cut.0 cut.1

-- the first field and the others
pub line_cut : (line name : List ℕ) (operands : List (List ℕ)) → fields_of line ≡ name ∷ operands → (next_field line ≡ name) × (fields_of (behind_field line) ≡ operands)
line_cut line name operands is =
    elim (list_cases (next_field line)) [
      | inl none ↦ absurd (let no : fields_of line ≡ [] = fields_none line none in cc)
      | inr some ↦ let more : next_field line ∷ fields_of (behind_field line) ≡ name ∷ operands = sym (fields_more line some) ∙ is in (cc, cc)
    ]

-- ---- what operands tell

pub some_mapped : {X Y : Type 0} (make : X → Y) (found : Option X) (y : Y) → option_map make found ≡ Some y → (x : X) × (found ≡ Some x) × (y ≡ make x)
some_mapped make None y is = absurd cc
some_mapped make (Some x) y is = (x, refl, let same : make x ≡ y = cc in sym same)

-- the one field that is read
pub record OneTold (read : List ℕ → Option ℕ) (operands : List (List ℕ)) (number : ℕ) : Type 0 where
  pub field : List ℕ
  pub are : operands ≡ field ∷ []
  pub is : read field ≡ Some number

pub one_told : (read : List ℕ → Option ℕ) (operands : List (List ℕ)) (number : ℕ) → read_field read (only_field operands) ≡ Some number → OneTold read operands number
one_told read [] number is = absurd cc
one_told read (field ∷ []) number is = record { field = field; are = refl; is = is }
one_told read (field ∷ other ∷ others) number is = absurd cc

record TwoTold (operands : List (List ℕ)) (numbers : ℕ × ℕ) : Type 0 where
  place : List ℕ
  digits : List ℕ
  are : operands ≡ place ∷ digits ∷ []
  address : octal_of 4 place ≡ Some numbers.0
  word : octal_of 6 digits ≡ Some numbers.1

both_told : (one other : Option ℕ) (numbers : ℕ × ℕ) → both_numbers one other ≡ Some numbers → (one ≡ Some numbers.0) × (other ≡ Some numbers.1)
both_told None other numbers is = absurd cc
both_told (Some address) None numbers is = absurd cc
both_told (Some address) (Some word) numbers is =
    let same : ◌≡◌ {A = ℕ × ℕ} (address, word) numbers = cc in
    (ap (λ (p : ℕ × ℕ). Some p.0) same, ap (λ (p : ℕ × ℕ). Some p.1) same)

two_told : (operands : List (List ℕ)) (numbers : ℕ × ℕ) → word_operands operands ≡ Some numbers → TwoTold operands numbers
two_told [] numbers is = absurd cc
two_told (place ∷ fields) numbers is =
    let both = both_told (octal_of 4 place) (word_operand fields) numbers is in
    let last = one_told (octal_of 6) fields numbers.1 both.1 in
    record { place = place; digits = last.field; are = ap (λ (rest : List (List ℕ)). place ∷ rest) last.are; address = both.0; word = last.is }

bare_told : (command other : Command) (operands : List (List ℕ)) → bare command operands ≡ Some other → (operands ≡ []) × (other ≡ command)
bare_told command other [] is = (refl, let same : command ≡ other = cc in sym same)
bare_told command other (field ∷ others) is = absurd cc

behind : (name : List ℕ) (one other : List (List ℕ)) → one ≡ other → name ∷ one ≡ name ∷ other
behind name one other is = ap (λ (rest : List (List ℕ)). name ∷ rest) is

subject_told : (one : Subject) (operands : List (List ℕ)) (command : Command) → subject_command (Some one) operands ≡ Some command → States (codes "SHOW" ∷ subject_name one ∷ operands) command
subject_told subject.Reg operands command is = let told = bare_told ShowReg command operands is in rw (told.1, told.0) refl
subject_told subject.Cell operands command is =
    let told = some_mapped ShowCell (address_operand operands) command is in
    let one = one_told (octal_of 4) operands told.0 told.1 in
    rw (told.2) (one.field, octal_tells 4 one.field told.0 one.is, ap (λ (rest : List (List ℕ)). codes "SHOW" ∷ codes "CELL" ∷ rest) one.are)
subject_told subject.Out operands command is =
    let told = some_mapped ShowOut (address_operand operands) command is in
    let one = one_told (octal_of 4) operands told.0 told.1 in
    rw (told.2) (one.field, octal_tells 4 one.field told.0 one.is, ap (λ (rest : List (List ℕ)). codes "SHOW" ∷ codes "OUT" ∷ rest) one.are)
subject_told subject.Deda operands command is = let told = bare_told ShowDeda command operands is in rw (told.1, told.0) refl

show_told : (operands : List (List ℕ)) (command : Command) → show_command operands ≡ Some command → States (codes "SHOW" ∷ operands) command
show_told [] command is = absurd cc
show_told (name ∷ operands) command is = by_subject (subject_named name) refl is
  where
    by_subject : (found : Option Subject) → subject_named name ≡ found → subject_command found operands ≡ Some command → States (codes "SHOW" ∷ name ∷ operands) command
    by_subject None found is = absurd cc
    by_subject (Some one) found is = rw (subject_tells name one found) at (subject_told one operands command is)

cell_told : (found : Option (ℕ × ℕ)) (command : Command) → erasable_cell found ≡ Some command → (numbers : ℕ × ℕ) × (found ≡ Some numbers) × (numbers.0 < 2048) × (command ≡ Cell numbers.0 numbers.1)
cell_told None command is = absurd cc
cell_told (Some numbers) command is =
    elim (cases_lt numbers.0 2048) [
      | inl lt ↦ let found = rw (lt-ltb numbers.0 2048 lt) at is in let same : Cell numbers.0 numbers.1 ≡ command = cc in (numbers, refl, lt, sym same)
      | inr le ↦ let none = rw (le-ltb numbers.0 2048 le) at is in absurd (cc)
    ]

-- a command that is read is stated
command_told : (one : Verb) (operands : List (List ℕ)) (command : Command) → verb_command one operands ≡ Some command → States (verb_name one ∷ operands) command
command_told verb.Start operands command is =
    let told = some_mapped Start (address_operand operands) command is in
    let one = one_told (octal_of 4) operands told.0 told.1 in
    rw (told.2) (one.field, octal_tells 4 one.field told.0 one.is, behind (codes "START") operands (one.field ∷ []) one.are)
command_told verb.Cell operands command is =
    let told = cell_told (word_operands operands) command is in
    let two = two_told operands told.0 told.1 in
    rw (told.3) (two.place, two.digits, octal_tells 4 two.place told.0.0 two.address, told.2, octal_tells 6 two.digits told.0.1 two.word, behind (codes "CELL") operands (two.place ∷ two.digits ∷ []) two.are)
command_told verb.Port operands command is =
    let told = some_mapped (λ numbers. Port numbers.0 numbers.1) (word_operands operands) command is in
    let two = two_told operands told.0 told.1 in
    rw (told.2) (two.place, two.digits, octal_tells 4 two.place told.0.0 two.address, octal_tells 6 two.digits told.0.1 two.word, behind (codes "PORT") operands (two.place ∷ two.digits ∷ []) two.are)
command_told verb.Step operands command is =
    let told = some_mapped Step (count_operand operands) command is in
    let one = one_told count_of operands told.0 told.1 in
    rw (told.2) (one.field, number_told 10 9 one.field told.0 one.is, behind (codes "STEP") operands (one.field ∷ []) one.are)
command_told verb.Pulse operands command is = let told = bare_told Pulse command operands is in rw (told.1, told.0) refl
command_told verb.Set operands command is =
    let told = some_mapped (λ numbers. Set numbers.0 numbers.1) (word_operands operands) command is in
    let two = two_told operands told.0 told.1 in
    rw (told.2) (two.place, two.digits, octal_tells 4 two.place told.0.0 two.address, octal_tells 6 two.digits told.0.1 two.word, behind (codes "SET") operands (two.place ∷ two.digits ∷ []) two.are)
command_told verb.Key operands command is = absurd cc
command_told verb.Feed operands command is = let told = bare_told Feed command operands is in rw (told.1, told.0) refl
command_told verb.Cycle operands command is =
    let told = some_mapped Cycle (count_operand operands) command is in
    let one = one_told count_of operands told.0 told.1 in
    rw (told.2) (one.field, number_told 10 9 one.field told.0 one.is, behind (codes "CYCLE") operands (one.field ∷ []) one.are)
command_told verb.Show operands command is = show_told operands command is

-- ---- what is stated is read

record Found (fields : List (List ℕ)) (command : Command) : Type 0 where
  first : Verb
  operands : List (List ℕ)
  are : fields ≡ verb_name first ∷ operands
  no_key : is_key first ≡ false
  is : verb_command first operands ≡ Some command

command_found : (fields : List (List ℕ)) (command : Command) → States fields command → Found fields command
command_found fields (Start address) states =
    record { first = verb.Start; operands = states.0 ∷ []; are = states.2; no_key = refl; is = ap (option_map Start) (octal_finds 4 states.0 address (omega arith) states.1) }
command_found fields (Cell address word) states = record {
  first = verb.Cell;
  operands = states.0 ∷ states.1 ∷ [];
  are = states.5;
  no_key = refl;
  is = rw (octal_finds 4 states.0 address (omega arith) states.2, octal_finds 6 states.1 word (omega arith) states.4, lt-ltb address 2048 states.3) refl;
}
command_found fields (Port address word) states = record {
  first = verb.Port;
  operands = states.0 ∷ states.1 ∷ [];
  are = states.4;
  no_key = refl;
  is = rw (octal_finds 4 states.0 address (omega arith) states.2, octal_finds 6 states.1 word (omega arith) states.3) refl;
}
command_found fields (Step count) states =
    record { first = verb.Step; operands = states.0 ∷ []; are = states.2; no_key = refl; is = ap (option_map Step) (number_written 10 9 states.0 count states.1) }
command_found fields Pulse states = record { first = verb.Pulse; operands = []; are = states; no_key = refl; is = refl }
command_found fields (Set address word) states = record {
  first = verb.Set;
  operands = states.0 ∷ states.1 ∷ [];
  are = states.4;
  no_key = refl;
  is = rw (octal_finds 4 states.0 address (omega arith) states.2, octal_finds 6 states.1 word (omega arith) states.3) refl;
}
command_found fields (Press pressed) states = absurd states
command_found fields Feed states = record { first = verb.Feed; operands = []; are = states; no_key = refl; is = refl }
command_found fields (Cycle count) states =
    record { first = verb.Cycle; operands = states.0 ∷ []; are = states.2; no_key = refl; is = ap (option_map Cycle) (number_written 10 9 states.0 count states.1) }
command_found fields ShowReg states = record { first = verb.Show; operands = codes "REG" ∷ []; are = states; no_key = refl; is = rw (subject_finds subject.Reg) refl }
command_found fields (ShowCell address) states = record {
  first = verb.Show;
  operands = codes "CELL" ∷ states.0 ∷ [];
  are = states.2;
  no_key = refl;
  is = rw (subject_finds subject.Cell, octal_finds 4 states.0 address (omega arith) states.1) refl;
}
command_found fields (ShowOut address) states = record {
  first = verb.Show;
  operands = codes "OUT" ∷ states.0 ∷ [];
  are = states.2;
  no_key = refl;
  is = rw (subject_finds subject.Out, octal_finds 4 states.0 address (omega arith) states.1) refl;
}
command_found fields ShowDeda states = record { first = verb.Show; operands = codes "DEDA" ∷ []; are = states; no_key = refl; is = rw (subject_finds subject.Deda) refl }

-- ---- keys

keys_found : (names : List (List ℕ)) (keys : List Key) → AreKeyNames names keys → keys_named names ≡ Some keys
unfolding keys_named
keys_found [] [] are = refl
keys_found [] (pressed ∷ keys) are = absurd are
keys_found (name ∷ names) [] are = absurd are
keys_found (name ∷ names) (pressed ∷ keys) are = rw (key_finds name pressed are.0, keys_found names keys are.1) refl

keys_told : (names : List (List ℕ)) (keys : List Key) → keys_named names ≡ Some keys → AreKeyNames names keys
unfolding keys_named
keys_told [] [] is = tt
keys_told [] (pressed ∷ keys) is = absurd cc
keys_told (name ∷ names) keys is = by_first (λ (rest : List Key) (are : keys_named names ≡ Some rest). keys_told names rest are) (key_named name) (keys_named names) refl refl keys is
  where
    by_first : ((rest : List Key) → keys_named names ≡ Some rest → AreKeyNames names rest) → (first : Option Key) (others : Option (List Key)) → key_named name ≡ first → keys_named names ≡ others
        → (keys : List Key) → with_key first others ≡ Some keys → AreKeyNames (name ∷ names) keys
    by_first tell None others named_first named_rest keys is = absurd cc
    by_first tell (Some first) None named_first named_rest keys is = absurd cc
    by_first tell (Some first) (Some others) named_first named_rest [] is = absurd cc
    by_first tell (Some first) (Some others) named_first named_rest (pressed ∷ keys) is =
        let same : first ∷ others ≡ pressed ∷ keys = cc in
        let head : first ≡ pressed = cc in
        let tail : others ≡ keys = cc in
        (key_tells name pressed (named_first ∙ ap (λ (k : Key). Some k) head), tell keys (named_rest ∙ ap (λ (ks : List Key). Some ks) tail))

some_are_keys : (keys : List Key) → 0 < length keys → some_keys (Some keys) ≡ Keys keys
some_are_keys [] some = absurd (omega arith)
some_are_keys (first ∷ keys) some = refl

-- ---- lines

no_sign : (one : Verb) → (get_or (verb_name one) 0 0 == 35) ≡ false
no_sign verb.Start = refl
no_sign verb.Cell = refl
no_sign verb.Port = refl
no_sign verb.Step = refl
no_sign verb.Pulse = refl
no_sign verb.Set = refl
no_sign verb.Key = refl
no_sign verb.Feed = refl
no_sign verb.Cycle = refl
no_sign verb.Show = refl

-- a line that begins with a number sign has it in its first field
sign_first : (line : List ℕ) → get_or line 0 0 ≡ 35 → get_or (next_field line) 0 0 ≡ 35
sign_first [] is = absurd (omega arith)
sign_first (b ∷ line) is = first_byte b line (rw is refl) ∙ is

pub unsigned : (line name : List ℕ) → next_field line ≡ name → (get_or name 0 0 == 35) ≡ false → (get_or line 0 0 == 35) ≡ false
unsigned line name is other_first =
    elim (cases_Bool (get_or line 0 0 == 35)) [
      | inl sign ↦
          let first : get_or name 0 0 ≡ 35 = ap (λ (field : List ℕ). get_or field 0 0) (sym is) ∙ sign_first line (eqb-true (get_or line 0 0) 35 sign) in
          let yes : (get_or name 0 0 == 35) ≡ true = rw first refl in
          absurd (cc)
      | inr other ↦ other
    ]

-- a line with fields is read by its first one
with_fields : (line : List ℕ) (one : Verb) (operands : List (List ℕ)) → length line ≤ 512 → fields_of line ≡ verb_name one ∷ operands → reading line ≡ verb_reading (Some one) operands
unfolding reading fields_reading
with_fields line one operands most are =
    let cut = line_cut line (verb_name one) operands are in
    let marks : list_all is_blank line ≡ false = blanks_cut line ∙ ap has_no_field are in
    let sign : (get_or line 0 0 == 35) ≡ false = unsigned line (verb_name one) cut.0 (no_sign one) in
    rw (le-ltb 512 (length line) most, marks, sign, cut.0, cut.1, verb_finds one) refl

skipped_read : (line : List ℕ) → IsSkipped line → reading line ≡ Skipped
unfolding reading
skipped_read line is =
    elim is.empty [
      | inl blank ↦ let all : list_all is_blank line ≡ true = blank in rw (le-ltb 512 (length line) is.most, all) refl
      | inr sign ↦ rw (le-ltb 512 (length line) is.most) (by_blank (list_all is_blank line) (get_or line 0 0) sign)
    ]
  where
    by_blank : (blank : Bool) (b : ℕ) → b ≡ 35 → (if blank || b == 35 then Skipped else fields_reading line) ≡ Skipped
    by_blank true b is = refl
    by_blank false b is = rw is refl

-- each line that spells something is read as that
pub spelled_read : (line : List ℕ) (asked : LineReading) → Spells line asked → reading line ≡ asked
spelled_read line Skipped spells = skipped_read line spells
spelled_read line (One command) spells =
    let found = command_found spells.fields command spells.is in
    let are : fields_of line ≡ verb_name found.first ∷ found.operands = standing line spells.fields spells.are spells.has ∙ found.are in
    with_fields line found.first found.operands spells.most are ∙ rw (found.no_key, found.is) refl
spelled_read line (Keys keys) spells =
    let is = spells.is in
    let are : fields_of line ≡ verb_name verb.Key ∷ is.0 = standing line spells.fields spells.are spells.has ∙ is.3 in
    with_fields line verb.Key is.0 spells.most are ∙ rw (keys_found is.0 keys is.1) (some_are_keys keys is.2)
spelled_read line Malformed spells = absurd spells

-- what a line is read as is what it spells
pub form : (line : List ℕ) (Is : List (List ℕ) → Type 0) → length line ≤ 512 → Is (fields_of line) → HasForm line Is
form line Is most is = record { most = most; fields = fields_of line; are = (stand line).0; has = (stand line).1; is = is }

keys_spelled : (line : List ℕ) (operands : List (List ℕ)) → length line ≤ 512 → fields_of line ≡ codes "KEY" ∷ operands
    → (named : Option (List Key)) → keys_named operands ≡ named → (asked : LineReading) → some_keys named ≡ asked → (asked ≡ Malformed → ⊥) → Spells line asked
keys_spelled line operands most are None named asked is some = absurd (some (sym is))
keys_spelled line operands most are (Some []) named asked is some = absurd (some (sym is))
keys_spelled line operands most are (Some (first ∷ keys)) named asked is some =
    rw (← is) (form line (λ fields. StatesKeys fields (first ∷ keys)) most (operands, keys_told operands (first ∷ keys) named, omega arith, are))

command_spelled : (line : List ℕ) (one : Verb) (operands : List (List ℕ)) → length line ≤ 512 → fields_of line ≡ verb_name one ∷ operands
    → (found : Option Command) → verb_command one operands ≡ found → (asked : LineReading) → Rattle.ags_script.specs.Reading.one found ≡ asked → (asked ≡ Malformed → ⊥) → Spells line asked
command_spelled line one operands most are None found asked is some = absurd (some (sym is))
command_spelled line one operands most are (Some command) found asked is some =
    rw (← is) (form line (λ fields. States fields command) most (rw are (command_told one operands command found)))

verb_spelled : (line : List ℕ) (one : Verb) (operands : List (List ℕ)) → length line ≤ 512 → fields_of line ≡ verb_name one ∷ operands
    → (asked : LineReading) → verb_reading (Some one) operands ≡ asked → (asked ≡ Malformed → ⊥) → Spells line asked
verb_spelled line verb.Start operands most are asked is some = command_spelled line verb.Start operands most are (verb_command verb.Start operands) refl asked is some
verb_spelled line verb.Cell operands most are asked is some = command_spelled line verb.Cell operands most are (verb_command verb.Cell operands) refl asked is some
verb_spelled line verb.Port operands most are asked is some = command_spelled line verb.Port operands most are (verb_command verb.Port operands) refl asked is some
verb_spelled line verb.Step operands most are asked is some = command_spelled line verb.Step operands most are (verb_command verb.Step operands) refl asked is some
verb_spelled line verb.Pulse operands most are asked is some = command_spelled line verb.Pulse operands most are (verb_command verb.Pulse operands) refl asked is some
verb_spelled line verb.Set operands most are asked is some = command_spelled line verb.Set operands most are (verb_command verb.Set operands) refl asked is some
verb_spelled line verb.Key operands most are asked is some = keys_spelled line operands most are (keys_named operands) refl asked is some
verb_spelled line verb.Feed operands most are asked is some = command_spelled line verb.Feed operands most are (verb_command verb.Feed operands) refl asked is some
verb_spelled line verb.Cycle operands most are asked is some = command_spelled line verb.Cycle operands most are (verb_command verb.Cycle operands) refl asked is some
verb_spelled line verb.Show operands most are asked is some = command_spelled line verb.Show operands most are (verb_command verb.Show operands) refl asked is some

no_verb : verb_named [] ≡ None
unfolding verb_named
no_verb = refl

fields_spelled : (line : List ℕ) → length line ≤ 512 → (found : Option Verb) → verb_named (next_field line) ≡ found
    → (asked : LineReading) → verb_reading found (fields_of (behind_field line)) ≡ asked → (asked ≡ Malformed → ⊥) → Spells line asked
fields_spelled line most None named asked is some = absurd (some (sym is))
fields_spelled line most (Some one) named asked is some =
    elim (list_cases (next_field line)) [
      | inl none ↦ absurd (let no : verb_named (next_field line) ≡ None = rw none no_verb in cc)
      | inr first ↦
          let are : fields_of line ≡ verb_name one ∷ fields_of (behind_field line) =
          fields_more line first ∙ ap (λ (name : List ℕ). name ∷ fields_of (behind_field line)) (sym (verb_tells (next_field line) one named)) in
          verb_spelled line one (fields_of (behind_field line)) most are asked is some
    ]

skipped_either : (line : List ℕ) → (list_all is_blank line || get_or line 0 0 == 35) ≡ true → AreBlanks line ⊎ (get_or line 0 0 ≡ 35)
skipped_either line is =
    elim (cases_Bool (list_all is_blank line)) [
      | inl blank ↦ inl blank
      | inr marks ↦ let sign = rw marks at is in inr (eqb-true (get_or line 0 0) 35 sign)
    ]

pub read_spelled : (line : List ℕ) (asked : LineReading) → reading line ≡ asked → (asked ≡ Malformed → ⊥) → Spells line asked
unfolding reading fields_reading
read_spelled line asked is some =
    elim (cases_lt 512 (length line)) [
      | inl long ↦ absurd (some (let bad = rw (lt-ltb 512 (length line) long) at is in sym bad))
      | inr most ↦
          let short = rw (le-ltb 512 (length line) most) at is in
          elim (cases_Bool (list_all is_blank line || get_or line 0 0 == 35)) [
            | inl skipped ↦
                let nothing = rw skipped at short in
                rw (← nothing) (record { most = most; empty = skipped_either line skipped })
            | inr marks ↦
                let fields = rw marks at short in
                fields_spelled line most (verb_named (next_field line)) refl asked fields some
          ]
    ]

pub malformed_spells_nothing : (line : List ℕ) (asked : LineReading) → reading line ≡ Malformed → Spells line asked → ⊥
malformed_spells_nothing line asked is spells = no_malformed asked (sym (spelled_read line asked spells) ∙ is) spells
  where
    no_malformed : (asked : LineReading) → asked ≡ Malformed → Spells line asked → ⊥
    no_malformed Skipped is spells = absurd cc
    no_malformed (One command) is spells = absurd cc
    no_malformed (Keys keys) is spells = absurd cc
    no_malformed Malformed is spells = spells

-- ---- lines that no script has

-- FEED has no operand
pub feed_alone : (line operand : List ℕ) → length line ≤ 512 → fields_of line ≡ codes "FEED" ∷ operand ∷ [] → reading line ≡ Malformed
feed_alone line operand most are = with_fields line verb.Feed (operand ∷ []) most are
