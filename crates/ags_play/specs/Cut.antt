-- A play that is cut in two, and what a safe certificate promises of the state at a cut.
use Rattle.std.specs.Prelude.{◌≡◌, ℕ, List, [], ◌++◌, Option, Some, None}
use Rattle.ags_domain.specs.Value.{value_meaning}
use Rattle.ags_domain.specs.declared.values.Value.{Value}
use Rattle.ags_ports.specs.declared.events.Event.{Event}
use Rattle.ags_ports.specs.declared.machines.Machine.{Machine}
use Rattle.ags_ports.specs.Run.{Moment, Run, last_state}
use Rattle.ags_safe.specs.Certificate.{Certificate}
use Rattle.ags_safe.specs.Safe.{IsSafeState}
use Rattle.ags_script.specs.declared.commands.Command.{Command}
use Rattle.ags_play.specs.Act.{Act, acts_of}
use Rattle.ags_play.specs.Bench.{Bench, start_bench}
use Rattle.ags_play.specs.Doing.{PutWord}
use Rattle.ags_play.specs.Played.{Plays}

-- After the cut the acts are played from the bench that those before it left, where none of their words was stopped; and
-- where one was, that is the end.
abbrev pub GoesOnFrom : Machine → Option (Certificate Value) → (mid : Bench) → (stopped : Option PutWord) → List Act → List Event → List ℕ → (after : Bench) (met : Option PutWord) → Type 0
GoesOnFrom machine guard mid None acts events text after met = Plays machine guard mid acts events text after met
GoesOnFrom machine guard mid (Some put) acts events text after met = Plays machine guard mid [] events text after None × (met ≡ Some put)

-- A play that is cut between two acts: what stands before the cut is a play whose events are one run from the first bench's
-- state to that of the bench that it leaves, and what stands after it goes on from there.
pub record PlaysInTurn (machine : Machine) (guard : Option (Certificate Value)) (b : Bench) (first second : List Act) (events : List Event) (text : List ℕ) (after : Bench) (met : Option PutWord) : Type 0 where
  pub early : List Event
  pub moments : List Moment
  pub shown : List ℕ
  pub mid : Bench
  pub stopped : Option PutWord
  pub later : List Event
  pub rest : List ℕ
  pub events_are : events ≡ early ++ later
  pub text_is : text ≡ shown ++ rest
  pub plays : Plays machine guard b first early shown mid stopped
  pub run : Run machine b.core early moments
  pub ends : mid.core ≡ last_state b.core moments
  pub goes_on : GoesOnFrom machine guard mid stopped second later rest after met

-- Wherever a play of the commands under the certificate is cut, the state that it has come to is one on the way of a safe run: so is
-- each state that the play shows.
abbrev pub IsSafeWhereCut : Machine → (image : List (Option ℕ)) → Certificate Value → List Command → Type 0
IsSafeWhereCut machine image cert commands = (first second : List Act) (events : List Event) (text : List ℕ) (mid : Bench) (stopped : Option PutWord)
    → acts_of commands ≡ first ++ second → Plays machine (Some cert) (start_bench machine image (Some cert) commands) first events text mid stopped
    → IsSafeState value_meaning machine image cert mid.core
