-- What is so of a bench run at each point: it is a run of its certificate, and safe where the certificate is. A device's plan is a list of
-- numbers; so each fact is said of events whose words are below 2 ^ 18, as are those that devices give.
use Rattle.std.specs.Prelude.{ℕ, List, Option}
use Rattle.ags_domain.specs.Value.{value_meaning}
use Rattle.ags_domain.specs.declared.values.Value.{Value}
use Rattle.ags_play.specs.Begun.{IsRunOf}
use Rattle.ags_ports.specs.declared.events.Event.{Event}
use Rattle.ags_ports.specs.declared.machines.Machine.{Machine}
use Rattle.ags_ports.specs.Run.{AreEvents, RunsTo}
use Rattle.ags_safe.specs.Certificate.{Certificate}
use Rattle.ags_safe.specs.Safe.{IsSafeState}
use Rattle.ags_drive.specs.Act.{Act}
use Rattle.ags_drive.specs.Bench.{Bench}
use Rattle.ags_drive.specs.Played.{IsPoint}

-- At each point the events so far are those of a run of the certificate from the first bench's state, which leads to the state here.
pub record IsRunAtPoint (machine : Machine) (image : List (Option ℕ)) (cert : Certificate Value) (b : Bench) (events : List Event) (here : Bench) : Type 0 where
  pub run : IsRunOf machine image cert b.core events
  pub leads : RunsTo machine b.core events here.core

abbrev pub IsRunWhereCut : Machine → (image : List (Option ℕ)) → Certificate Value → Bench → List Act → Type 0
IsRunWhereCut machine image cert b acts = (events : List Event) (text : List ℕ) (here : Bench) (done rest : List Act)
    → IsPoint machine cert b acts events text here done rest → AreEvents events → IsRunAtPoint machine image cert b events here

-- at each point the state is one on the way of a safe run
abbrev pub IsSafeWhereCut : Machine → (image : List (Option ℕ)) → Certificate Value → Bench → List Act → Type 0
IsSafeWhereCut machine image cert b acts = (events : List Event) (text : List ℕ) (here : Bench) (done rest : List Act)
    → IsPoint machine cert b acts events text here done rest → AreEvents events → IsSafeState value_meaning machine image cert here.core
