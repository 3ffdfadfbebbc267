-- What playing acts on a bench means: the events that they make, the text that is printed, the bench that they leave, and the points
-- on the way.
use Rattle.std.specs.Prelude.{◌≡◌, ℕ, List, [], ◌∷◌, ◌++◌, None}
use Rattle.ags_device.specs.Record.{DeviceRecord}
use Rattle.ags_domain.specs.declared.values.Value.{Value}
use Rattle.ags_ports.specs.declared.events.Event.{Event}
use Rattle.ags_ports.specs.declared.machines.Machine.{Machine}
use Rattle.ags_ports.specs.Run.{Moment}
use Rattle.ags_safe.specs.Certificate.{Certificate}
use Rattle.ags_drive.specs.Act.{Act, Detaches}
use Rattle.ags_drive.specs.Bench.{Bench, position_of_number, with_detached}
use Rattle.ags_drive.specs.Doing.{Does, refusal, bench_after, shown_text}

-- Nothing refuses the act; it makes its events and prints its text; and what goes on from the bench that it leaves makes the other
-- events and prints the rest of the text.
pub record PlaysFirst (machine : Machine) (cert : Certificate Value) (b : Bench) (act : Act) (GoesOn : Bench → List Event → List ℕ → Type 0) (events : List Event) (text : List ℕ) : Type 0 where
  pub through : refusal machine cert b act ≡ None
  pub made : List Event
  pub moments : List Moment
  pub does : Does machine b act made moments
  pub later : List Event
  pub rest : List ℕ
  pub events_are : events ≡ made ++ later
  pub text_is : text ≡ shown_text machine b act ++ rest
  pub goes_on : GoesOn (bench_after machine b act moments) later rest

-- From this bench all these acts are made, one after another: they make these events, print this text and leave the bench here.
abbrev pub Plays : Machine → Certificate Value → Bench → List Act → List Event → List ℕ → (here : Bench) → Type 0
Plays machine cert b [] events text here = (events ≡ []) × (text ≡ []) × (here ≡ b)
Plays machine cert b (act ∷ acts) events text here =
    PlaysFirst machine cert b act (λ between later rest. Plays machine cert between acts later rest here) events text

-- A point of the play of acts: the first of them are made, with these events and this text, up to the bench here, and the rest is
-- still to be made.
pub record IsPoint (machine : Machine) (cert : Certificate Value) (b : Bench) (acts : List Act) (events : List Event) (text : List ℕ) (here : Bench) (done rest : List Act) : Type 0 where
  pub acts_are : acts ≡ done ++ rest
  pub plays : Plays machine cert b done events text here

-- what the next act prints, where one is left
abbrev pub next_text : Machine → Bench → List Act → List ℕ
next_text machine here [] = []
next_text machine here (act ∷ acts) = shown_text machine here act

-- of devices, those that are still there after some acts
abbrev pub still_there : List DeviceRecord → List Act → List DeviceRecord
still_there devices [] = devices
still_there devices (Detaches line number ∷ acts) = still_there (with_detached devices (position_of_number number)) acts
still_there devices (act ∷ acts) = still_there devices acts
