-- What is asked for, and the arguments that ask for it. After `arguments_ask_for_one_thing` of `laws.rt` stand
--     asked_of-asked_arguments   what can be asked for is asked for by its arguments
--     asked_arguments-asked_of   and by no others
use Rattle.std.proofs.Common.{◌≡◌, ℕ, ◌≤◌, Bool, true, false, List, [], ◌∷◌, ◌++◌, length, get_or, Option, Some, None, refl, sym, ap, ◌∙◌, arith}
use Rattle.std.specs.Prelude.{IfSome, ◌&&◌, nat_eq, nat_le, if◌then◌else◌}
use Rattle.std.specs.Fmt.{decimal}
use Rattle.std.specs.Option.{option_map}
use Rattle.std.specs.Str.{bytes_eq}
use Rattle.std.specs.Str.Parse.{AllDigits, digits_value}
use Rattle.std.proofs.lemmas.Bool.{and_parts}
use Rattle.std.proofs.lemmas.Bool.Decides.{nat_tests}
use Rattle.std.proofs.lemmas.Fmt.{decimal_is_IsNumeral, decimal-digits_value, first_decimal, length-decimal-le}
use Rattle.std.proofs.lemmas.Slice.Eq.{bytes_eq-Decides}
use Rattle.std.proofs.lemmas.Str.Parse.{IsNumeralModel}
use Rattle.ags_text.specs.Numeral.{IsNumber, number_of}
use Rattle.ags_text.proofs.NumberLaws.{number_told, number_written}
use Rattle.ags_command.specs.declared.source_texts.SourceText.TheVariants.{Listing, Tape, CrossReference}
use Rattle.ags_command.specs.Command.{Command, Write, Compare, Certify, Run, Guard, Budget, Scales, Edits, CommandLine, arguments_of, machine_argument, line_arguments, line_of, Asked, OnMachine, Workload, IsAsked, workload_verb, asked_arguments, size_within, size_of, workload_of, asked_of}
use Rattle.ags_command.proofs.CommandLemmas.{line_of-line_arguments, line_arguments-line_of}

-- ---- sizes

-- digits and what they write are std's
own_digits : IsNumeralModel (AllDigits 10) (digits_value 10)
own_digits = record { to = λ ds digits. digits; from = λ ds digits. digits; same = λ ds digits. refl }

-- a size's digits write it
size_number : (size : ℕ) → 1 ≤ size → size ≤ 400 → IsNumber 10 9 (decimal size) size
size_number size one many =
    let numeral = decimal_is_IsNumeral size (omega arith) in
    record { digits = numeral.0; fits = omega (arith, length-decimal-le 3 size (omega arith) (omega arith) (omega arith)); value = sym numeral.1 }

-- and are read as it
size_of-decimal : (size : ℕ) → 1 ≤ size → size ≤ 400 → size_of (decimal size) ≡ Some size
size_of-decimal size one many =
    let first = first_decimal size (omega arith) (omega arith) in
    let not_zero : nat_eq (get_or (decimal size) 0 0) 48 ≡ false = grind (arith, nat_tests) in
    let low : nat_le 1 size ≡ true = grind (arith, nat_tests) in
    let high : nat_le size 400 ≡ true = grind (arith, nat_tests) in
    rw (not_zero, number_written 10 9 (decimal size) size (size_number size one many), low, high) refl

-- a text that is read as a size is its digits
decimal-size_of : (text : List ℕ) (size : ℕ) → size_of text ≡ Some size → ((1 ≤ size) × (size ≤ 400)) × (text ≡ decimal size)
decimal-size_of text size is = by_first (nat_eq (get_or text 0 0) 48) refl is
  where
    of_number : (number : ℕ) → number_of 10 9 text ≡ Some number → nat_eq (get_or text 0 0) 48 ≡ false → (within : Bool) → nat_le 1 number && nat_le number 400 ≡ within
        → (if within then Some number else None) ≡ Some size → ((1 ≤ size) × (size ≤ 400)) × (text ≡ decimal size)
    of_number number told not_zero false test got = absurd cc
    of_number number told not_zero true test got =
        let same : number ≡ size = cc in
        let is_number = number_told 10 9 text number told in
        let parts = and_parts (nat_le 1 number) (nat_le number 400) test in
        let low : 1 ≤ number = grind (arith, nat_tests, parts.0) in
        let high : number ≤ 400 = grind (arith, nat_tests, parts.1) in
        let first : get_or text 0 0 ≡ 48 → length text ≡ 1 = λ zero. absurd (grind (arith, nat_tests)) in
        let written : decimal (digits_value 10 text) ≡ text =
        decimal-digits_value own_digits text is_number.digits.1 is_number.digits.0 first (omega (arith, is_number.value)) in
        ((omega arith, omega arith), sym written ∙ ap decimal (sym is_number.value ∙ same))

    by_number : (number : Option ℕ) → number_of 10 9 text ≡ number → nat_eq (get_or text 0 0) 48 ≡ false → size_within number ≡ Some size
        → ((1 ≤ size) × (size ≤ 400)) × (text ≡ decimal size)
    by_number None told not_zero got = absurd cc
    by_number (Some number) told not_zero got = of_number number told not_zero (nat_le 1 number && nat_le number 400) refl got

    by_first : (zero : Bool) → nat_eq (get_or text 0 0) 48 ≡ zero → (if zero then None else size_within (number_of 10 9 text)) ≡ Some size
        → ((1 ≤ size) × (size ≤ 400)) × (text ≡ decimal size)
    by_first true test got = absurd cc
    by_first false test got = by_number (number_of 10 9 text) refl test got

-- ---- what is asked for

-- a command line's arguments ask for a command, since none has the workload's verb
of_line : (line : CommandLine) → asked_of (line_arguments line) ≡ option_map OnMachine (line_of (line_arguments line))
of_line line = of_command line.command line.machine
  where
    of_command : (command : Command) (machine : Option (List ℕ))
        → asked_of (arguments_of command ++ machine_argument machine) ≡ option_map OnMachine (line_of (arguments_of command ++ machine_argument machine))
    of_command (Write Listing source) machine = refl
    of_command (Write Tape source) machine = refl
    of_command (Write CrossReference source) machine = refl
    of_command (Compare source listing) machine = refl
    of_command (Certify source certificate) machine = refl
    of_command (Run source script) machine = refl
    of_command (Guard source script certificate) machine = refl
    of_command (Budget source certificate times) machine = refl
    of_command (Scales source certificate scales) machine = refl
    of_command (Edits source certificate edits) machine = refl

pub asked_of-asked_arguments : (asked : Asked) → IsAsked asked → asked_of (asked_arguments asked) ≡ Some asked
asked_of-asked_arguments (OnMachine line) is = of_line line ∙ ap (option_map OnMachine) (line_of-line_arguments line)
asked_of-asked_arguments (Workload size) (one, many) = ap (option_map Workload) (size_of-decimal size one many)

-- a command is asked for by its arguments alone
by_line : (arguments : List (List ℕ)) (line : Option CommandLine) (asked : Asked) → line_of arguments ≡ line → option_map OnMachine line ≡ Some asked
    → IsAsked asked × (arguments ≡ asked_arguments asked)
by_line arguments None asked told got = absurd cc
by_line arguments (Some line) (OnMachine other) told got =
    let same : line ≡ other = cc in (tt, line_arguments-line_of arguments other (told ∙ ap (λ (l : CommandLine). Some l) same))
by_line arguments (Some line) (Workload size) told got = absurd cc

-- a workload by its verb and size
by_size : (text : List ℕ) (size : Option ℕ) (asked : Asked) → size_of text ≡ size → option_map Workload size ≡ Some asked
    → IsAsked asked × (workload_verb ∷ text ∷ [] ≡ asked_arguments asked)
by_size text None asked told got = absurd cc
by_size text (Some size) (OnMachine line) told got = absurd cc
by_size text (Some size) (Workload other) told got =
    let same : size ≡ other = cc in
    let (within, is) = decimal-size_of text other (told ∙ ap (λ (n : ℕ). Some n) same) in
    (within, ap (λ (n : List ℕ). workload_verb ∷ n ∷ []) is)

by_names : (names : List (List ℕ)) (asked : Asked) → workload_of names ≡ Some asked → IsAsked asked × (workload_verb ∷ names ≡ asked_arguments asked)
by_names [] asked got = absurd cc
by_names (text ∷ []) asked got = by_size text (size_of text) asked refl got
by_names (text ∷ other ∷ more) asked got = absurd cc

pub asked_arguments-asked_of : (arguments : List (List ℕ)) (asked : Asked) → asked_of arguments ≡ Some asked → IsAsked asked × (arguments ≡ asked_arguments asked)
asked_arguments-asked_of [] asked got = absurd cc
asked_arguments-asked_of (verb ∷ names) asked got = by_verb (bytes_eq verb workload_verb) refl got
  where
    by_verb : (same : Bool) → bytes_eq verb workload_verb ≡ same
        → (if same then workload_of names else option_map OnMachine (line_of (verb ∷ names))) ≡ Some asked → IsAsked asked × (verb ∷ names ≡ asked_arguments asked)
    by_verb true test so =
        let (is, arguments) = by_names names asked so in
        (is, ap (λ (v : List ℕ). v ∷ names) ((bytes_eq-Decides verb workload_verb).0 test) ∙ arguments)
    by_verb false test so = by_line (verb ∷ names) (line_of (verb ∷ names)) asked refl so

-- what was read of arguments can be asked for
pub read_is_asked : {A : Type 0} (view : A → Asked) (arguments : List (List ℕ)) (read : Option A) → option_map view read ≡ asked_of arguments
    → IfSome read (λ it. IsAsked (view it))
read_is_asked view arguments None is = tt
read_is_asked view arguments (Some it) is = (asked_arguments-asked_of arguments (view it) (sym is)).0
