-- The commands of a script suit its machine.
use Rattle.std.proofs.Common.{◌≡◌, ℕ, ◌+◌, ◌≤◌, Bool, true, false, not, ◌&&◌, ◌||◌, List, [], ◌∷◌, ◌++◌, map, reverse, Option, Some, None, All, refl, sym, ap, ◌∙◌, inl, inr, arith, append_assoc, cond}
use Rattle.std.specs.Prelude.{sum_by, count_by}
use Rattle.std.specs.List.{list_any}
use Rattle.std.proofs.lemmas.Bool.{cases_Bool, cases_lt, lt-ltb}
use Rattle.std.proofs.lemmas.List.{append-nil}
use Rattle.std.proofs.lemmas.List.Folds.{list_any-append}
use Rattle.std.proofs.lemmas.List.Sums.{sum_by-append, sum_by-cons}
use Rattle.std.proofs.lemmas.List.Elements.{All-nil, All-push}
use Rattle.ags_text.specs.Fault.{first_fault, first_fault-faulty, first_fault-faultless}
use Rattle.ags_text.specs.Line.{LineAt, lines_of}
use Rattle.ags_ports.specs.declared.machines.Machine.{Machine}
use Rattle.ags_deda.specs.declared.keys.Key.{Key}
use Rattle.ags_script.specs.declared.commands.Command.{Command}
use Rattle.ags_script.specs.declared.commands.Command.TheVariants.{Start, Cell, Port, Step, Pulse, Set, Press, Feed, Cycle, ShowReg, ShowCell, ShowOut, ShowDeda}
use Rattle.ags_script.specs.Limit.{step_limit}
use Rattle.ags_script.specs.declared.script_errors.ScriptKind.{ScriptKind}
use Rattle.ags_script.specs.Command.{is_start, is_setting, step_count, lacks_port}
use Rattle.ags_script.specs.Reading.{reading}
use Rattle.ags_script.specs.Script.{commands_in, commands_of, is_misplaced, command_fault, reading_fault, line_fault, IsReadFor}
use Rattle.ags_script.specs.Spelling.{LineReading, Skipped, One, Keys, Malformed, States, Spells}
use Rattle.ags_script.specs.Suiting.{NamesLocation, NamesWord, AreOrdered, Suits}
use Rattle.ags_script.proofs.NumberLemmas.{small_address, small_word}
use Rattle.ags_script.proofs.ScriptLemmas.{commands-more, reverse-more}
use Rattle.ags_script.proofs.SpellingLaws.{read_spelled}

-- ---- one command more

-- what a command without a fault is
record IsFine (machine : Machine) (earlier : List Command) (command : Command) : Type 0 where
  placed : is_misplaced earlier command ≡ false
  port : lacks_port machine command ≡ false
  room : sum_by step_count earlier + step_count command ≤ step_limit

fine : (machine : Machine) (earlier : List Command) (command : Command) → command_fault machine earlier command ≡ None → IsFine machine earlier command
fine machine earlier command none =
    elim (cases_Bool (is_misplaced earlier command)) [
      | inl bad ↦ let some = rw bad at none in absurd (cc)
      | inr placed ↦
          let next = rw placed at none in
          elim (cases_Bool (lacks_port machine command)) [
            | inl lacks ↦ let some = rw lacks at next in absurd (cc)
            | inr has ↦
                let last = rw has at next in
                elim (cases_lt step_limit (sum_by step_count earlier + step_count command)) [
                  | inl many ↦ let some = rw (lt-ltb step_limit (sum_by step_count earlier + step_count command) many) at last in absurd (cc)
                  | inr few ↦ record { placed = placed; port = has; room = few }
                ]
          ]
    ]

one_more : (P : Command → Type 0) (earlier : List Command) (command : Command) → All P earlier → P command → All P (earlier ++ command ∷ [])
one_more P earlier command all is = All-push P earlier command all is

either_none : (a b : Bool) → (a || b) ≡ false → (a ≡ false) × (b ≡ false)
either_none false false is = (refl, refl)
either_none false true is = absurd cc
either_none true b is = absurd cc

no_and : (a b : Bool) → (a && b) ≡ false → a ≡ true → b ≡ false
no_and true b both first = both
no_and false b both first = absurd cc

-- commands after the settings show that there are some
others_none : (settings others : List Command) → All (λ command. is_setting command ≡ false) others → list_any (λ command. not (is_setting command)) (settings ++ others) ≡ false → others ≡ []
others_none settings [] are none = refl
others_none settings (command ∷ others) are none =
    let parts = either_none (list_any (λ c. not (is_setting c)) settings) (list_any (λ c. not (is_setting c)) (command ∷ others)) (sym (list_any-append (λ c. not (is_setting c)) settings (command ∷ others)) ∙ none) in
    let this = either_none (not (is_setting command)) (list_any (λ c. not (is_setting c)) others) parts.1 in
    let head : is_setting command ≡ false = are 0 command (omega arith) in
    let yes : not (is_setting command) ≡ true = ap not head in
    absurd (let clash : ◌≡◌ {A = Bool} true false = sym yes ∙ this.0 in cc)

ordered : (earlier : List Command) (command : Command) → AreOrdered earlier → is_misplaced earlier command ≡ false → AreOrdered (earlier ++ command ∷ [])
ordered earlier command so placed =
    let parts = either_none (is_setting command && list_any (λ c. not (is_setting c)) earlier) (is_start command && list_any is_start earlier) placed in
    elim (cases_Bool (is_setting command)) [
      | inl setting ↦
          let no_others : list_any (λ c. not (is_setting c)) (so.settings ++ so.others) ≡ false =
          ap (list_any (λ c. not (is_setting c))) (sym so.whole) ∙ no_and (is_setting command) (list_any (λ c. not (is_setting c)) earlier) parts.0 setting in
          let none : so.others ≡ [] = others_none so.settings so.others so.behind no_others in
          let same : earlier ≡ so.settings = so.whole ∙ ap (λ (others : List Command). so.settings ++ others) none ∙ append-nil so.settings in
          record {
            settings = so.settings ++ command ∷ [];
            others = [];
            whole = ap (λ (all : List Command). all ++ command ∷ []) same ∙ sym (append-nil (so.settings ++ command ∷ []));
            first = one_more (λ c. is_setting c ≡ true) so.settings command so.first setting;
            behind = All-nil (λ c. is_setting c ≡ false);
          }
      | inr other ↦ record {
        settings = so.settings;
        others = so.others ++ command ∷ [];
        whole = ap (λ (all : List Command). all ++ command ∷ []) so.whole ∙ append_assoc so.settings so.others (command ∷ []);
        first = so.first;
        behind = one_more (λ c. is_setting c ≡ false) so.others command so.behind other;
      }
    ]

-- how many of them are START, one by one
abbrev start_weight : Command → ℕ
start_weight command = cond (is_start command) 1 0

count_one : (command : Command) → count_by is_start (command ∷ []) ≡ start_weight command
count_one command = sum_by-cons start_weight command [] ∙ omega arith

count_more : (earlier : List Command) (command : Command) → count_by is_start (earlier ++ command ∷ []) ≡ count_by is_start earlier + start_weight command
count_more earlier command = sum_by-append start_weight earlier (command ∷ []) ∙ ap (λ (n : ℕ). count_by is_start earlier + n) (count_one command)

-- no START among commands of which none is one
count_none : (commands : List Command) → list_any is_start commands ≡ false → count_by is_start commands ≡ 0
count_none [] none = refl
count_none (command ∷ commands) none =
    let parts = either_none (is_start command) (list_any is_start commands) none in
    let weight : start_weight command ≡ 0 = rw parts.0 refl in
    sum_by-cons start_weight command commands ∙ omega (arith, weight, count_none commands parts.1)

starts : (earlier : List Command) (command : Command) → count_by is_start earlier ≤ 1 → is_misplaced earlier command ≡ false → count_by is_start (earlier ++ command ∷ []) ≤ 1
starts earlier command few placed =
    let parts = either_none (is_setting command && list_any (λ c. not (is_setting c)) earlier) (is_start command && list_any is_start earlier) placed in
    elim (cases_Bool (is_start command)) [
      | inl start ↦
          let none : count_by is_start earlier ≡ 0 = count_none earlier (no_and (is_start command) (list_any is_start earlier) parts.1 start) in
          let weight : start_weight command ≡ 1 = rw start refl in
          omega (arith, count_more earlier command, weight, none)
      | inr other ↦ let weight : start_weight command ≡ 0 = rw other refl in omega (arith, count_more earlier command, weight)
    ]

suits_more : (machine : Machine) (earlier : List Command) (command : Command) → Suits machine earlier → NamesLocation command → NamesWord command → IsFine machine earlier command
    → Suits machine (earlier ++ command ∷ [])
suits_more machine earlier command suits location word is = record {
  ports = one_more (λ c. lacks_port machine c ≡ false) earlier command suits.ports is.port;
  locations = one_more NamesLocation earlier command suits.locations location;
  words = one_more NamesWord earlier command suits.words word;
  steps = omega (arith, sum_by-append step_count earlier (command ∷ []), sum_by-cons step_count command [], is.room);
  ordered = ordered earlier command suits.ordered is.placed;
  starts = starts earlier command suits.starts is.placed;
}

-- presses are never at fault
suits_keys : (machine : Machine) (earlier : List Command) (keys : List Key) → Suits machine earlier → Suits machine (earlier ++ map Press keys)
suits_keys machine earlier [] suits = rw (append-nil earlier) suits
suits_keys machine earlier (pressed ∷ keys) suits =
    let room : sum_by step_count earlier + step_count (Press pressed) ≤ step_limit = omega (arith, suits.steps) in
    let next : Suits machine (earlier ++ Press pressed ∷ []) = suits_more machine earlier (Press pressed) suits tt tt (record { placed = refl; port = refl; room = room }) in
    let all : Suits machine ((earlier ++ Press pressed ∷ []) ++ map Press keys) = suits_keys machine (earlier ++ Press pressed ∷ []) keys next in
    rw (append_assoc earlier (Press pressed ∷ []) (map Press keys)) at all

-- ---- one line more

location_stated : (fields : List (List ℕ)) (command : Command) → States fields command → NamesLocation command
location_stated fields (Start address) is = small_address is.0 address is.1
location_stated fields (Cell address word) is = is.3
location_stated fields (Port address word) is = tt
location_stated fields (Step count) is = tt
location_stated fields Pulse is = tt
location_stated fields (Set address word) is = tt
location_stated fields (Press pressed) is = tt
location_stated fields Feed is = tt
location_stated fields (Cycle count) is = tt
location_stated fields ShowReg is = tt
location_stated fields (ShowCell address) is = small_address is.0 address is.1
location_stated fields (ShowOut address) is = small_address is.0 address is.1
location_stated fields ShowDeda is = tt

word_stated : (fields : List (List ℕ)) (command : Command) → States fields command → NamesWord command
word_stated fields (Start address) is = tt
word_stated fields (Cell address word) is = small_word is.1 word is.4
word_stated fields (Port address word) is = small_word is.1 word is.3
word_stated fields (Step count) is = tt
word_stated fields Pulse is = tt
word_stated fields (Set address word) is = small_word is.1 word is.3
word_stated fields (Press pressed) is = tt
word_stated fields Feed is = tt
word_stated fields (Cycle count) is = tt
word_stated fields ShowReg is = tt
word_stated fields (ShowCell address) is = tt
word_stated fields (ShowOut address) is = tt
word_stated fields ShowDeda is = tt

suits_reading : (machine : Machine) (earlier : List Command) (line : List ℕ) (asked : LineReading) → reading line ≡ asked → Suits machine earlier → reading_fault machine earlier asked ≡ None
    → Suits machine (earlier ++ commands_in asked)
suits_reading machine earlier line Skipped is suits none = rw (append-nil earlier) suits
suits_reading machine earlier line (One command) is suits none =
    let spells : Spells line (One command) = read_spelled line (One command) is (λ bad. cc) in
    suits_more machine earlier command suits (location_stated spells.fields command spells.is) (word_stated spells.fields command spells.is) (fine machine earlier command none)
suits_reading machine earlier line (Keys keys) is suits none = suits_keys machine earlier keys suits
suits_reading machine earlier line Malformed is suits none = absurd cc

suits_line : (machine : Machine) (before : List LineAt) (line : LineAt) → Suits machine (commands_of (reverse before)) → line_fault machine before line ≡ None → Suits machine (commands_of (reverse (line ∷ before)))
suits_line machine before line suits none =
    rw (reverse-more line before, commands-more (reverse before) line) (suits_reading machine (commands_of (reverse before)) line.bytes (reading line.bytes) refl suits none)

suits_lines : (machine : Machine) (lines before : List LineAt) → Suits machine (commands_of (reverse before)) → first_fault (line_fault machine) before lines ≡ None → Suits machine (commands_of (reverse before ++ lines))
suits_lines machine [] before suits none = rw (append-nil (reverse before)) suits
suits_lines machine (line ∷ lines) before suits none = by_fault (λ (so : Suits machine (commands_of (reverse (line ∷ before)))) (rest : first_fault (line_fault machine) (line ∷ before) lines ≡ None). suits_lines machine lines (line ∷ before) so rest) (line_fault machine before line) refl
  where
    by_fault : (Suits machine (commands_of (reverse (line ∷ before))) → first_fault (line_fault machine) (line ∷ before) lines ≡ None → Suits machine (commands_of (reverse (line ∷ before) ++ lines)))
        → (fault : Option ScriptKind) → line_fault machine before line ≡ fault → Suits machine (commands_of (reverse before ++ line ∷ lines))
    by_fault more None is =
        let all : Suits machine (commands_of (reverse (line ∷ before) ++ lines)) = more (suits_line machine before line suits is) (sym (first_fault-faultless (line_fault machine) before line lines is) ∙ none) in
        let same : reverse (line ∷ before) ++ lines ≡ reverse before ++ line ∷ lines = ap (λ (front : List LineAt). front ++ lines) (reverse-more line before) ∙ append_assoc (reverse before) (line ∷ []) lines in
        rw same at all
    by_fault more (Some kind) is = absurd (let clash = sym (first_fault-faulty (line_fault machine) before line lines kind is) ∙ none in cc)

nothing_suits : (machine : Machine) → Suits machine []
nothing_suits machine = record {
  ports = All-nil (λ c. lacks_port machine c ≡ false);
  locations = All-nil NamesLocation;
  words = All-nil NamesWord;
  steps = omega arith;
  ordered = record { settings = []; others = []; whole = refl; first = All-nil (λ c. is_setting c ≡ true); behind = All-nil (λ c. is_setting c ≡ false) };
  starts = omega arith;
}

pub read_suits : (machine : Machine) (commands : List Command) → IsReadFor machine commands → Suits machine commands
read_suits machine commands is = rw (is.is_script.commands_are) (suits_lines machine (lines_of is.text) [] (nothing_suits machine) is.is_script.faultless)
