-- Runs of the machine: a list of events, and what comes of them one after another.
use Rattle.std.specs.Prelude.{◌≡◌, List, [], ◌∷◌, ◌++◌, ⊤}
use Rattle.ags_ports.specs.declared.events.Event.{Event}
use Rattle.ags_ports.specs.declared.events.Done.{Done}
use Rattle.ags_ports.specs.declared.machines.Machine.{Machine}
use Rattle.ags_ports.specs.State.{State}
use Rattle.ags_ports.specs.Step.{IsEvent, Steps}

-- what comes of one event: what the step told, and the state after it
pub record Moment : Type 0 where
  pub report : Done
  pub after : State

-- From this state, these events give these moments, one step after another. There is no bound on their number.
abbrev pub Run : Machine → State → List Event → List Moment → Type 0
Run machine s [] [] = ⊤
Run machine s (event ∷ events) (moment ∷ moments) =
    Steps machine s event moment.report moment.after × Run machine moment.after events moments
-- each event has its moment
Run machine s [] (moment ∷ moments) = ⊥
Run machine s (event ∷ events) [] = ⊥

-- each word that an event puts is below 2 ^ 18
abbrev pub AreEvents : List Event → Type 0
AreEvents [] = ⊤
AreEvents (event ∷ events) = IsEvent event × AreEvents events

-- the fact holds at each moment
abbrev pub AtEach : (Moment → Type 0) → List Moment → Type 0
AtEach P [] = ⊤
AtEach P (moment ∷ moments) = P moment × AtEach P moments

-- The fact holds at each step of a run: of the state before it, of its event, and of what comes of that.
abbrev pub AtEachStep : (State → Event → Moment → Type 0) → State → List Event → List Moment → Type 0
AtEachStep P s [] [] = ⊤
AtEachStep P s (event ∷ events) (moment ∷ moments) = P s event moment × AtEachStep P moment.after events moments
-- each event has its moment
AtEachStep P s [] (moment ∷ moments) = ⊥
AtEachStep P s (event ∷ events) [] = ⊥

-- the state at the end of a run
abbrev pub last_state : State → List Moment → State
last_state s [] = s
last_state s (moment ∷ moments) = last_state moment.after moments

-- the events lead from one state to another, along a run
pub record RunsTo (machine : Machine) (s : State) (events : List Event) (after : State) : Type 0 where
  pub moments : List Moment
  pub run : Run machine s events moments
  pub ends : after ≡ last_state s moments

-- These moments are those of a run over one list of events, and after them those of a run over another list, from the state
-- that the first run ends in.
pub record RunsInTurn (machine : Machine) (s : State) (first second : List Event) (moments : List Moment) : Type 0 where
  pub early : List Moment
  pub late : List Moment
  pub moments_are : moments ≡ early ++ late
  pub run : Run machine s first early
  pub goes_on : Run machine (last_state s early) second late
