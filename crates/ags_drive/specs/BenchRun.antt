-- A bench run: what a script's lines come to over a machine, an image, a certificate and the devices that are handed in.
use Rattle.std.specs.Prelude.{◌≡◌, ℕ, List, [], ◌∷◌, ◌++◌, length, Option, Some, None}
use Rattle.ags_benchscript.specs.declared.commands.BenchCommand.{BenchCommand}
use Rattle.ags_device.specs.Record.{DeviceRecord}
use Rattle.ags_domain.specs.declared.values.Value.{Value}
use Rattle.ags_play.specs.Guard.{Outside, IsFirstOutside}
use Rattle.ags_ports.specs.declared.events.Event.{Event}
use Rattle.ags_ports.specs.declared.machines.Machine.{Machine}
use Rattle.ags_safe.specs.Certificate.{Certificate}
use Rattle.ags_drive.specs.Act.{Act, acts_of_script}
use Rattle.ags_drive.specs.Bench.{Bench, start_bench}
use Rattle.ags_drive.specs.Doing.{Refusal, refusal, devices_where_refused}
use Rattle.ags_drive.specs.Played.{IsPoint}

-- what a run meets: nothing, a start that the certificate doesn't declare, or an act that is refused
pub data Met : Type 0 where
  Nothing : Met
  OutsideStart : Outside → Met
  RefusedAct : Refusal → Met

-- The run stops here: no act is left, or the next one is refused. These are then the devices, and this is what is met.
abbrev pub StopsAt : Machine → Certificate Value → (here : Bench) (rest : List Act) (now : List DeviceRecord) → Met → Type 0
StopsAt machine cert here [] now met = (now ≡ here.devices) × (met ≡ Nothing)
StopsAt machine cert here (act ∷ rest) now met =
    (why : Refusal) × (refusal machine cert here act ≡ Some why) × (now ≡ devices_where_refused machine here act why) × (met ≡ RefusedAct why)

-- the acts are made from a bench up to the point where the run stops
pub record RunsOn (machine : Machine) (cert : Certificate Value) (b : Bench) (acts : List Act) (events : List Event) (text : List ℕ) (now : List DeviceRecord) (met : Met) : Type 0 where
  pub here : Bench
  pub done : List Act
  pub rest : List Act
  pub point : IsPoint machine cert b acts events text here done rest
  pub stops : StopsAt machine cert here rest now met

-- where something of the start is outside, there is no event and no text, the devices are those that were handed in, and that is met;
-- else the acts are made
abbrev pub RunsUnless : Machine → Certificate Value → Bench → List Act → Option Outside → List Event → List ℕ → List DeviceRecord → Met → Type 0
RunsUnless machine cert b acts (Some outside) events text now met = (events ≡ []) × (text ≡ []) × (now ≡ b.devices) × (met ≡ OutsideStart outside)
RunsUnless machine cert b acts None events text now met = RunsOn machine cert b acts events text now met

-- The lines of a script are run on the machine with an image in its cells, under a certificate and with these devices: these are the
-- events and the text, these the devices where the run stops, and this is what it meets.
pub record IsBenchRun (machine : Machine) (image : List (Option ℕ)) (cert : Certificate Value) (devices : List DeviceRecord) (lines : List (ℕ × BenchCommand))
    (events : List Event) (text : List ℕ) (now : List DeviceRecord) (met : Met) : Type 0 where
  pub found : Option Outside
  pub tested : IsFirstOutside machine image cert (start_bench machine image cert devices).core found
  pub runs : RunsUnless machine cert (start_bench machine image cert devices) (acts_of_script (length devices) lines) found events text now met

-- the acts of a run: none where something of the start is outside
abbrev pub acts_unless : Option Outside → List Act → List Act
acts_unless (Some outside) acts = []
acts_unless None acts = acts

-- A point of that run, at which so many events are made, this text is printed, and this is the bench. Of the start it is tested what
-- is outside first.
pub record IsPointOfRun (machine : Machine) (image : List (Option ℕ)) (cert : Certificate Value) (devices : List DeviceRecord) (lines : List (ℕ × BenchCommand))
    (events : List Event) (text : List ℕ) (here : Bench) (done rest : List Act) : Type 0 where
  pub found : Option Outside
  pub tested : IsFirstOutside machine image cert (start_bench machine image cert devices).core found
  pub point : IsPoint machine cert (start_bench machine image cert devices) (acts_unless found (acts_of_script (length devices) lines)) events text here done rest

-- The events and the text are the first ones of the script's run.
pub record IsFrontOfRun (machine : Machine) (image : List (Option ℕ)) (cert : Certificate Value) (devices : List DeviceRecord) (lines : List (ℕ × BenchCommand))
    (events : List Event) (text : List ℕ) : Type 0 where
  pub all : List Event
  pub whole : List ℕ
  pub last : List DeviceRecord
  pub met : Met
  pub runs : IsBenchRun machine image cert devices lines all whole last met
  pub later : List Event
  pub more : List ℕ
  pub events_are : all ≡ events ++ later
  pub text_is : whole ≡ text ++ more
