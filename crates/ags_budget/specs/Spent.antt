-- What a run spends: the order time since the processor last began to run, at the start or at a pulse that ended waiting.
use Rattle.std.specs.Prelude.{ℕ, ◌+◌, ◌≤◌, Bool, true, false, List, [], ◌∷◌, Option, if◌then◌else◌}
use Rattle.ags_domain.specs.Domain.{Meaning}
use Rattle.ags_ports.specs.declared.events.Phase.{Phase}
use Rattle.ags_ports.specs.declared.events.Phase.TheVariants.{Waiting}
use Rattle.ags_ports.specs.declared.events.Event.{Event}
use Rattle.ags_ports.specs.declared.events.Event.TheVariants.{Pulse}
use Rattle.ags_ports.specs.declared.machines.Machine.{Machine}
use Rattle.ags_ports.specs.OrderTime.{order_time}
use Rattle.ags_ports.specs.State.{State}
use Rattle.ags_ports.specs.Run.{Moment, Run, AreEvents}
use Rattle.ags_row.specs.declared.rows.Row.{Row}
use Rattle.ags_safe.specs.InRow.{IsInRow}
use Rattle.ags_safe.specs.Certificate.{Certificate}
use Rattle.ags_safe.specs.Failing.{StandsAt}
use Rattle.ags_safe.specs.Start.{IsStart, AreDeclared}
use Rattle.ags_times.specs.Budget.{bound_of}

-- the event is a pulse that ends waiting
abbrev pub resumes : Phase → Event → Bool
resumes Waiting Pulse = true
resumes phase event = false

-- the state at the last resume, after an event in a phase
abbrev pub resumed_after : Phase → Event → Moment → State → State
resumed_after phase event moment resumed = if resumes phase event then moment.after else resumed

-- the time that was spent since then
abbrev pub spent_after : Machine → Phase → Event → Moment → ℕ → ℕ
spent_after machine phase event moment spent = if resumes phase event then 0 else spent + order_time machine moment.report

-- At each state on the way the fact holds of the state at the last resume, and of the time spent since; at the first state they are these.
abbrev pub AtEachSpent : (State → ℕ → Type 0) → Machine → State → ℕ → State → List Event → List Moment → Type 0
AtEachSpent P machine resumed spent s [] [] = P resumed spent
AtEachSpent P machine resumed spent s (event ∷ events) (moment ∷ moments) = P resumed spent
    × AtEachSpent P machine (resumed_after s.phase event moment resumed) (spent_after machine s.phase event moment spent) moment.after events moments
-- each event has its moment
AtEachSpent P machine resumed spent s [] (moment ∷ moments) = ⊥
AtEachSpent P machine resumed spent s (event ∷ events) [] = ⊥

module _ {D : Type 0} (meaning : Meaning D) (machine : Machine) (image : List (Option ℕ)) (cert : Certificate D) (bounds : List ℕ) where
  -- the time is within the bound of each row that holds the state
  abbrev pub IsInBounds : State → ℕ → Type 0
  IsInBounds resumed spent = (position : ℕ) (row : Row D) → StandsAt cert position row → IsInRow meaning image cert.limits row resumed
      → spent ≤ bound_of bounds (position + 1)

  -- So it is, and the time is within the cycle's 20,000 microseconds.
  pub record IsInTime (resumed : State) (spent : ℕ) : Type 0 where
    pub rows : IsInBounds resumed spent
    pub cycle : spent ≤ 20000

  -- In every run from a start, over every list of events that may come, the time that was spent since the last resume is at each state
  -- within the bound of each row that held the state then, and so within the cycle.
  abbrev pub KeepsBounds : Type 0
  KeepsBounds = (s : State) (events : List Event) (moments : List Moment) → IsStart meaning machine image cert s
      → AreEvents events → AreDeclared meaning machine cert events → Run machine s events moments
      → AtEachSpent IsInTime machine s 0 s events moments
