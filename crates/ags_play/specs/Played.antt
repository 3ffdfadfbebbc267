-- What playing a script means: the events that its acts make, the text that is printed along them, and what the play met
-- that its guard doesn't allow.
use Rattle.std.specs.Prelude.{◌≡◌, ℕ, List, [], ◌∷◌, ◌++◌, Option, Some, None}
use Rattle.ags_domain.specs.declared.values.Value.{Value}
use Rattle.ags_ports.specs.declared.events.Event.{Event}
use Rattle.ags_ports.specs.declared.machines.Machine.{Machine}
use Rattle.ags_ports.specs.Run.{Moment}
use Rattle.ags_safe.specs.Certificate.{Certificate}
use Rattle.ags_script.specs.declared.commands.Command.{Command}
use Rattle.ags_play.specs.Act.{Act, acts_of}
use Rattle.ags_play.specs.Bench.{Bench, begun_state, start_bench}
use Rattle.ags_play.specs.Doing.{PutWord, Does, put_by, bench_after, shown_text}
use Rattle.ags_play.specs.Guard.{Outside, stopped_by, IsFound}

-- An act makes its events and prints its text; and what goes on from the bench that it leaves makes the other events and
-- prints the rest of the text.
pub record PlaysFirst (machine : Machine) (b : Bench) (act : Act) (GoesOn : Bench → List Event → List ℕ → Type 0) (events : List Event) (text : List ℕ) : Type 0 where
  pub made : List Event
  pub moments : List Moment
  pub does : Does machine b act made moments
  pub later : List Event
  pub rest : List ℕ
  pub events_are : events ≡ made ++ later
  pub text_is : text ≡ shown_text machine b act ++ rest
  pub goes_on : GoesOn (bench_after machine b act moments) later rest

-- an act whose word is stopped isn't made, and the play ends on this bench; any other is made, and the play goes on
abbrev pub PlaysOne : Machine → Bench → Act → (stopped : Option PutWord) → (GoesOn : Bench → List Event → List ℕ → Type 0) → List Event → List ℕ → Bench → Option PutWord → Type 0
PlaysOne machine b act (Some put) GoesOn events text after met = (events ≡ []) × (text ≡ []) × (after ≡ b) × (met ≡ Some put)
PlaysOne machine b act None GoesOn events text after met = PlaysFirst machine b act GoesOn events text

-- From this bench the acts, one after another, make these events, print this text and leave the bench after; what is met is
-- the first word that the guard stopped.
abbrev pub Plays : Machine → Option (Certificate Value) → Bench → List Act → List Event → List ℕ → Bench → Option PutWord → Type 0
Plays machine guard b [] events text after met = (events ≡ []) × (text ≡ []) × (after ≡ b) × (met ≡ None)
Plays machine guard b (act ∷ acts) events text after met =
    PlaysOne machine b act (stopped_by machine guard (put_by machine b act))
    (λ between later rest. Plays machine guard between acts later rest after met) events text after met

-- what a play meets: nothing, a start that the certificate doesn't declare, or a word to be put that it doesn't
pub data Met : Type 0 where
  Nothing : Met
  OutsideStart : Outside → Met
  OutsidePut : PutWord → Met

-- what is met where a guard stopped this word, or none
abbrev pub met_of : Option PutWord → Met
met_of None = Nothing
met_of (Some put) = OutsidePut put

-- a play of the acts from a bench
pub record PlaysFrom (machine : Machine) (guard : Option (Certificate Value)) (b : Bench) (acts : List Act) (events : List Event) (text : List ℕ) (met : Met) : Type 0 where
  pub after : Bench
  pub stopped : Option PutWord
  pub plays : Plays machine guard b acts events text after stopped
  pub met_is : met ≡ met_of stopped

-- where something is outside, there is no event and no text, and that is met; else the acts are played
abbrev pub PlaysUnless : Machine → Option (Certificate Value) → Bench → List Act → Option Outside → List Event → List ℕ → Met → Type 0
PlaysUnless machine guard b acts (Some outside) events text met = (events ≡ []) × (text ≡ []) × (met ≡ OutsideStart outside)
PlaysUnless machine guard b acts None events text met = PlaysFrom machine guard b acts events text met

-- The commands of a script are played on the machine with an image in its cells, under a certificate or none: these are the
-- events and the text, and this is what the play met.
pub record IsPlayOf (machine : Machine) (image : List (Option ℕ)) (guard : Option (Certificate Value)) (commands : List Command) (events : List Event) (text : List ℕ) (met : Met) : Type 0 where
  pub found : Option Outside
  pub tested : IsFound machine image guard (begun_state machine image guard commands) found
  pub played : PlaysUnless machine guard (start_bench machine image guard commands) (acts_of commands) found events text met
