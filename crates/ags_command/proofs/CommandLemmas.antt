-- Command lines and their arguments. After `arguments_ask_for_one_command` of `answer_laws.rt` stand
--     line_of-line_arguments   a command line's arguments ask for it
--     line_arguments-line_of   and no others do
use Rattle.std.proofs.Common.{◌≡◌, ℕ, Bool, true, false, List, [], ◌∷◌, ◌++◌, Option, Some, None, codes, refl, sym, ap, ◌∙◌}
use Rattle.std.specs.Prelude.{if◌then◌else◌}
use Rattle.std.specs.Str.{bytes_eq}
use Rattle.std.proofs.lemmas.Slice.Eq.{bytes_eq-Decides}
use Rattle.ags_command.specs.declared.source_texts.SourceText.{SourceText}
use Rattle.ags_command.specs.declared.source_texts.SourceText.TheVariants.{Listing, Tape, CrossReference}
use Rattle.ags_command.specs.Command.{Command, Write, Compare, Certify, Run, Guard, Budget, Scales, Edits, CommandLine, verb_of, arguments_of, machine_argument, line_arguments, line_with, one_name, two_names, three_names, Form, form_of, forms, line_named, line_of}

-- what stands after a command's names is read back
line_with-machine_argument : (command : Command) (machine : Option (List ℕ)) → line_with command (machine_argument machine) ≡ Some (record { command = command; machine = machine })
line_with-machine_argument command None = refl
line_with-machine_argument command (Some name) = refl

pub line_of-line_arguments : (line : CommandLine) → line_of (line_arguments line) ≡ Some line
line_of-line_arguments line = of_command line.command line.machine
  where
    of_command : (command : Command) (machine : Option (List ℕ)) → line_of (arguments_of command ++ machine_argument machine) ≡ Some (record { command = command; machine = machine })
    of_command (Write Listing source) machine = line_with-machine_argument (Write Listing source) machine
    of_command (Write Tape source) machine = line_with-machine_argument (Write Tape source) machine
    of_command (Write CrossReference source) machine = line_with-machine_argument (Write CrossReference source) machine
    of_command (Compare source listing) machine = line_with-machine_argument (Compare source listing) machine
    of_command (Certify source certificate) machine = line_with-machine_argument (Certify source certificate) machine
    of_command (Run source script) machine = line_with-machine_argument (Run source script) machine
    of_command (Guard source script certificate) machine = line_with-machine_argument (Guard source script certificate) machine
    of_command (Budget source certificate times) machine = line_with-machine_argument (Budget source certificate times) machine
    of_command (Scales source certificate scales) machine = line_with-machine_argument (Scales source certificate scales) machine
    of_command (Edits source certificate edits) machine = line_with-machine_argument (Edits source certificate edits) machine

-- and nothing else asks for it
of_line_with : (command : Command) (behind : List (List ℕ)) (line : CommandLine) → line_with command behind ≡ Some line → arguments_of command ++ behind ≡ line_arguments line
of_line_with command [] line asked = let same : record { command = command; machine = None } ≡ line = cc in ap line_arguments same
of_line_with command (name ∷ []) line asked = let same : record { command = command; machine = Some name } ≡ line = cc in ap line_arguments same
of_line_with command (name ∷ other ∷ names) line asked = absurd cc

-- a verb and names that are of this form are the arguments of what they ask for
IsForm : Form → Type 0
IsForm form = (names : List (List ℕ)) (line : CommandLine) → form.line_of names ≡ Some line → form.verb ∷ names ≡ line_arguments line

of_one_name : (verb : List ℕ) (command : List ℕ → Command) → ((name : List ℕ) → arguments_of (command name) ≡ verb ∷ name ∷ [])
    → IsForm (record { verb = verb; line_of = one_name command })
unfolding IsForm
of_one_name verb command arguments [] line asked = absurd cc
of_one_name verb command arguments (name ∷ behind) line asked =
    ap (λ (a : List (List ℕ)). a ++ behind) (sym (arguments name)) ∙ of_line_with (command name) behind line asked

of_two_names : (verb : List ℕ) (command : List ℕ → List ℕ → Command) → ((name other : List ℕ) → arguments_of (command name other) ≡ verb ∷ name ∷ other ∷ [])
    → IsForm (record { verb = verb; line_of = two_names command })
unfolding IsForm
of_two_names verb command arguments [] line asked = absurd cc
of_two_names verb command arguments (name ∷ []) line asked = absurd cc
of_two_names verb command arguments (name ∷ other ∷ behind) line asked =
    ap (λ (a : List (List ℕ)). a ++ behind) (sym (arguments name other)) ∙ of_line_with (command name other) behind line asked

of_three_names : (verb : List ℕ) (command : List ℕ → List ℕ → List ℕ → Command)
    → ((name other third : List ℕ) → arguments_of (command name other third) ≡ verb ∷ name ∷ other ∷ third ∷ [])
    → IsForm (record { verb = verb; line_of = three_names command })
unfolding IsForm
of_three_names verb command arguments [] line asked = absurd cc
of_three_names verb command arguments (name ∷ []) line asked = absurd cc
of_three_names verb command arguments (name ∷ other ∷ []) line asked = absurd cc
of_three_names verb command arguments (name ∷ other ∷ third ∷ behind) line asked =
    ap (λ (a : List (List ℕ)). a ++ behind) (sym (arguments name other third)) ∙ of_line_with (command name other third) behind line asked

AreForms : List Form → Type 0
AreForms [] = Unit {0}
AreForms (form ∷ others) = IsForm form × AreForms others

of_text : (text : SourceText) → IsForm (form_of text)
of_text text = of_one_name (verb_of text) (Write text) (λ name. refl)

are_forms : AreForms forms
unfolding AreForms
are_forms = (
  of_text Listing,
  (
    of_two_names (codes "compare") Compare (λ name other. refl),
    (
      of_text Tape,
      (
        of_text CrossReference,
        (
          of_two_names (codes "certify") Certify (λ name other. refl),
          (of_two_names (codes "run") Run (λ name other. refl), (of_three_names (codes "guard") Guard (λ name other third. refl), (of_three_names (codes "budget") Budget (λ name other third. refl), (of_three_names (codes "scales") Scales (λ name other third. refl), (of_three_names (codes "edits") Edits (λ name other third. refl), tt))))),
        ),
      ),
    ),
  ),
)

-- by whether it is a form's verb, and for the other forms
by_verb : (form : Form) (others : List Form) (verb : List ℕ) (names : List (List ℕ)) (line : CommandLine) (same : Bool) → IsForm form
    → (line_named others verb names ≡ Some line → verb ∷ names ≡ line_arguments line) → bytes_eq verb form.verb ≡ same
    → (if same then form.line_of names else line_named others verb names) ≡ Some line → verb ∷ names ≡ line_arguments line
unfolding IsForm
by_verb form others verb names line true is later test asked = ap (λ (v : List ℕ). v ∷ names) ((bytes_eq-Decides verb form.verb).0 test) ∙ is names line asked
by_verb form others verb names line false is later test asked = later asked

by_forms : (known : List Form) (verb : List ℕ) (names : List (List ℕ)) (line : CommandLine) → AreForms known → line_named known verb names ≡ Some line
    → verb ∷ names ≡ line_arguments line
unfolding AreForms
by_forms [] verb names line are asked = absurd cc
by_forms (form ∷ others) verb names line are asked =
    by_verb form others verb names line (bytes_eq verb form.verb) are.0 (λ later. by_forms others verb names line are.1 later) refl asked

pub line_arguments-line_of : (arguments : List (List ℕ)) (line : CommandLine) → line_of arguments ≡ Some line → arguments ≡ line_arguments line
line_arguments-line_of [] line asked = absurd cc
line_arguments-line_of (verb ∷ names) line asked = by_forms forms verb names line are_forms asked
