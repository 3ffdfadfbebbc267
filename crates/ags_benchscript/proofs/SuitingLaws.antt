-- The commands of a bench script suit its machine.
use Rattle.std.proofs.Common.{◌≡◌, ℕ, ◌+◌, ◌≤◌, false, List, [], ◌∷◌, ◌++◌, length, reverse, Option, Some, None, refl, sym, ap, ◌∙◌, inl, inr, arith, append_assoc}
use Rattle.std.proofs.lemmas.Bool.{cases_Bool, cases_lt, lt-ltb}
use Rattle.std.proofs.lemmas.List.{append-nil}
use Rattle.std.proofs.lemmas.List.Sums.{sum_by-append, sum_by-cons}
use Rattle.std.proofs.lemmas.List.Elements.{All-nil, All-push}
use Rattle.ags_text.specs.Fault.{first_fault, first_fault-faulty, first_fault-faultless}
use Rattle.ags_text.specs.Line.{LineAt, lines_of}
use Rattle.ags_ports.specs.declared.machines.Machine.{Machine}
use Rattle.ags_script.specs.Limit.{step_limit}
use Rattle.ags_script.specs.declared.script_errors.ScriptKind.{ScriptKind}
use Rattle.ags_script.proofs.NumberLemmas.{small_address}
use Rattle.ags_benchscript.specs.declared.commands.BenchCommand.{BenchCommand}
use Rattle.ags_benchscript.specs.declared.commands.BenchCommand.TheVariants.{Step, Pulse, Cycle, ShowReg, ShowCell, ShowOut, Feed, Detach}
use Rattle.ags_benchscript.specs.Command.{step_count, lacks_port}
use Rattle.ags_benchscript.specs.Reading.{reading}
use Rattle.ags_benchscript.specs.Script.{asked_in, asked_of, steps_of, command_fault, reading_fault, line_fault, IsReadFor}
use Rattle.ags_benchscript.specs.Spelling.{LineReading, Skipped, One, Malformed, States, Spells}
use Rattle.ags_benchscript.specs.Suiting.{NamesLocation, Suits}
use Rattle.ags_benchscript.proofs.ScriptLemmas.{asked-next, nothing_asked, reverse-more}
use Rattle.ags_benchscript.proofs.SpellingLaws.{read_spelled}

-- ---- one command more

-- what a command without a fault is
record IsFine (machine : Machine) (earlier : List (ℕ × BenchCommand)) (command : BenchCommand) : Type 0 where
  port : lacks_port machine command ≡ false
  room : steps_of earlier + step_count command ≤ step_limit

fine : (machine : Machine) (earlier : List (ℕ × BenchCommand)) (command : BenchCommand) → command_fault machine earlier command ≡ None → IsFine machine earlier command
fine machine earlier command none =
    elim (cases_Bool (lacks_port machine command)) [
      | inl lacks ↦ let some = rw lacks at none in absurd (cc)
      | inr has ↦
          let last = rw has at none in
          elim (cases_lt step_limit (steps_of earlier + step_count command)) [
            | inl many ↦ let some = rw (lt-ltb step_limit (steps_of earlier + step_count command) many) at last in absurd (cc)
            | inr few ↦ record { port = has; room = few }
          ]
    ]

suits_more : (machine : Machine) (earlier : List (ℕ × BenchCommand)) (number : ℕ) (command : BenchCommand) → Suits machine earlier → NamesLocation command → IsFine machine earlier command
    → Suits machine (earlier ++ (number, command) ∷ [])
suits_more machine earlier number command suits location is = record {
  ports = All-push (λ (line : ℕ × BenchCommand). lacks_port machine line.1 ≡ false) earlier (number, command) suits.ports is.port;
  locations = All-push (λ (line : ℕ × BenchCommand). NamesLocation line.1) earlier (number, command) suits.locations location;
  steps =
      omega (
        arith,
        sum_by-append (λ (line : ℕ × BenchCommand). step_count line.1) earlier ((number, command) ∷ []),
        sum_by-cons (λ (line : ℕ × BenchCommand). step_count line.1) (number, command) [],
        is.room,
      );
}

-- ---- one line more

location_stated : (fields : List (List ℕ)) (command : BenchCommand) → States fields command → NamesLocation command
location_stated fields (Step count) is = tt
location_stated fields Pulse is = tt
location_stated fields (Cycle count) is = tt
location_stated fields ShowReg is = tt
location_stated fields (ShowCell address) is = small_address is.0 address is.1
location_stated fields (ShowOut address) is = small_address is.0 address is.1
location_stated fields (Feed number) is = tt
location_stated fields (Detach number) is = tt

suits_reading : (machine : Machine) (earlier : List (ℕ × BenchCommand)) (number : ℕ) (line : List ℕ) (asked : LineReading) → reading line ≡ asked → Suits machine earlier → reading_fault machine earlier asked ≡ None
    → Suits machine (earlier ++ asked_in number asked)
suits_reading machine earlier number line Skipped is suits none = rw (append-nil earlier) suits
suits_reading machine earlier number line (One command) is suits none =
    let spells : Spells line (One command) = read_spelled line (One command) is (λ bad. cc) in
    suits_more machine earlier number command suits (location_stated spells.fields command spells.is) (fine machine earlier command none)
suits_reading machine earlier number line Malformed is suits none = absurd cc

suits_line : (machine : Machine) (before : List LineAt) (line : LineAt) → Suits machine (asked_of (reverse before)) → line_fault machine before line ≡ None → Suits machine (asked_of (reverse (line ∷ before)))
suits_line machine before line suits none =
    rw (asked-next before line) (suits_reading machine (asked_of (reverse before)) (length before + 1) line.bytes (reading line.bytes) refl suits none)

suits_lines : (machine : Machine) (lines before : List LineAt) → Suits machine (asked_of (reverse before)) → first_fault (line_fault machine) before lines ≡ None → Suits machine (asked_of (reverse before ++ lines))
suits_lines machine [] before suits none = rw (append-nil (reverse before)) suits
suits_lines machine (line ∷ lines) before suits none = by_fault (λ (so : Suits machine (asked_of (reverse (line ∷ before)))) (rest : first_fault (line_fault machine) (line ∷ before) lines ≡ None). suits_lines machine lines (line ∷ before) so rest) (line_fault machine before line) refl
  where
    by_fault : (Suits machine (asked_of (reverse (line ∷ before))) → first_fault (line_fault machine) (line ∷ before) lines ≡ None → Suits machine (asked_of (reverse (line ∷ before) ++ lines)))
        → (fault : Option ScriptKind) → line_fault machine before line ≡ fault → Suits machine (asked_of (reverse before ++ line ∷ lines))
    by_fault more None is =
        let all : Suits machine (asked_of (reverse (line ∷ before) ++ lines)) = more (suits_line machine before line suits is) (sym (first_fault-faultless (line_fault machine) before line lines is) ∙ none) in
        let same : reverse (line ∷ before) ++ lines ≡ reverse before ++ line ∷ lines = ap (λ (front : List LineAt). front ++ lines) (reverse-more line before) ∙ append_assoc (reverse before) (line ∷ []) lines in
        rw same at all
    by_fault more (Some kind) is = absurd (let clash = sym (first_fault-faulty (line_fault machine) before line lines kind is) ∙ none in cc)

nothing_suits : (machine : Machine) → Suits machine []
nothing_suits machine = record {
  ports = All-nil (λ (line : ℕ × BenchCommand). lacks_port machine line.1 ≡ false);
  locations = All-nil (λ (line : ℕ × BenchCommand). NamesLocation line.1);
  steps = omega arith;
}

pub read_suits : (machine : Machine) (asked : List (ℕ × BenchCommand)) → IsReadFor machine asked → Suits machine asked
read_suits machine asked is =
    let none : Suits machine (asked_of []) = rw nothing_asked (nothing_suits machine) in
    rw (is.is_script.asked_are) (suits_lines machine (lines_of is.text) [] none is.is_script.faultless)
