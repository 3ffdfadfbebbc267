-- What a run of the program as a process ends with.
use Rattle.std.specs.Prelude.{◌≡◌, ◌⊎◌, ℕ, List, Result, Ok, Err}
use Rattle.ags_outside.specs.ToldFile.{Untold}
use Rattle.ags_plan.specs.Answer.{IsAnswer}
use Rattle.ags_plan.specs.Outcome.{Stops}
use Rattle.ags_program.specs.declared.status.Status.{Status}
use Rattle.ags_program.specs.Program.{plan_of, program}
use Rattle.ags_program.specs.Status.{number_of}

-- The status answers the arguments, for some files, since nothing is told of them; or it is one that stops.
abbrev pub EndsFor : (arguments : List (List ℕ)) → Status → Type 0
EndsFor arguments status = ((text : List ℕ) × IsAnswer program (λ _. Untold) (plan_of arguments) text status) ⊎ Stops program status

-- the number is that of a status which answers the arguments, or of one that stops
abbrev pub ExitsFor : (arguments : List (List ℕ)) (number : ℕ) → Type 0
ExitsFor arguments number = (status : Status) × EndsFor arguments status × (number ≡ number_of status)

-- Of a sink that is there before a call, it is there after it, and so it stands then; where there was no memory for a sink nothing
-- is said.
abbrev pub OnSink : {K E : Type 0} (old new : Result K E) (Stands : K → K → Type 0) → Type 0
OnSink (Ok before) (Ok after) Stands = Stands before after
OnSink (Ok before) (Err error) Stands = ⊥
OnSink (Err error) new Stands = Unit {0}
