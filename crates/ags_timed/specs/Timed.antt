-- Timed runs: the processor's steps until a time is spent, or orders don't run any more.
use Rattle.std.specs.Prelude.{◌≡◌, ◌≢◌, ◌⊎◌, ℕ, ◌<◌, ◌≤◌, List, [], ◌∷◌, length, take, replicate, sum_by}
use Rattle.ags_ports.specs.declared.events.Phase.TheVariants.{Running}
use Rattle.ags_ports.specs.declared.events.Event.TheVariants.{Step}
use Rattle.ags_ports.specs.declared.events.Done.{Done}
use Rattle.ags_ports.specs.declared.machines.Machine.{Machine}
use Rattle.ags_ports.specs.State.{State}
use Rattle.ags_ports.specs.OrderTime.{order_time}
use Rattle.ags_ports.specs.Run.{Moment, Run, last_state}

-- the order time of moments together, in microseconds
abbrev pub time_of_moments : Machine → List Moment → ℕ
time_of_moments machine moments = sum_by (λ (moment : Moment). order_time machine moment.report) moments

-- after these moments the limit isn't reached, and orders run
pub record GoesOn (machine : Machine) (limit : ℕ) (s : State) (moments : List Moment) : Type 0 where
  pub time : time_of_moments machine moments < limit
  pub running : (last_state s moments).phase ≡ Running

-- These moments are those of the least number of Steps, from this state, at which the order time reaches the limit or orders
-- don't run; and this is their order time.
pub record IsTimedRun (machine : Machine) (limit : ℕ) (s : State) (moments : List Moment) (spent : ℕ) : Type 0 where
  pub run : Run machine s (replicate (length moments) Step) moments
  pub time : spent ≡ time_of_moments machine moments
  pub over : (limit ≤ spent) ⊎ ((last_state s moments).phase ≢ Running)
  pub least : (count : ℕ) → count < length moments → GoesOn machine limit s (take count moments)

-- A watcher saw the reports of these moments, each once and one after another; a look is what seeing one report makes of it.
abbrev pub LooksAt : {W : Type 0} → (looks : W → Done → W → Type 0) → W → List Moment → W → Type 0
LooksAt looks watcher [] after = after ≡ watcher
LooksAt {W} looks watcher (moment ∷ moments) after = (between : W) × looks watcher moment.report between × LooksAt looks between moments after

-- From one state to another along a timed run, of which a watcher saw each report.
pub record RunsFor {W : Type 0} (looks : W → Done → W → Type 0) (machine : Machine) (limit : ℕ) (s : State) (watcher : W) (after : State) (watcher_after : W) (spent : ℕ) : Type 0 where
  pub moments : List Moment
  pub timed : IsTimedRun machine limit s moments spent
  pub ends : after ≡ last_state s moments
  pub seen : LooksAt looks watcher moments watcher_after

-- From one state to another along so many steps, of which a watcher saw each report.
pub record RunsSteps {W : Type 0} (looks : W → Done → W → Type 0) (machine : Machine) (count : ℕ) (s : State) (watcher : W) (after : State) (watcher_after : W) : Type 0 where
  pub moments : List Moment
  pub run : Run machine s (replicate count Step) moments
  pub ends : after ≡ last_state s moments
  pub seen : LooksAt looks watcher moments watcher_after
