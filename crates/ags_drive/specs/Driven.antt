-- How far a bench run was driven, with the devices as they then stand and what a sink then took.
use Rattle.std.specs.Prelude.{◌≡◌, ℕ, List, [], ◌∷◌, ◌++◌, count_by, Option, Some}
use Rattle.ags_benchscript.specs.declared.commands.BenchCommand.{BenchCommand}
use Rattle.ags_device.specs.Record.{DeviceRecord}
use Rattle.ags_domain.specs.declared.values.Value.{Value}
use Rattle.ags_outside.specs.Sink.{appended, WroteFront}
use Rattle.ags_play.specs.Counted.{is_step, is_put}
use Rattle.ags_ports.specs.declared.events.Event.{Event}
use Rattle.ags_ports.specs.declared.machines.Machine.{Machine}
use Rattle.ags_ports.specs.Run.{AreEvents}
use Rattle.ags_safe.specs.Certificate.{Certificate}
use Rattle.ags_drive.specs.Act.{Act}
use Rattle.ags_drive.specs.Bench.{Bench}
use Rattle.ags_drive.specs.BenchRun.{Met, Nothing, IsBenchRun, IsPointOfRun}
use Rattle.ags_drive.specs.Doing.{Refusal, refusal, devices_where_refused}
use Rattle.ags_drive.specs.Played.{IsPoint, still_there, next_text}

-- ---- acts from a bench

-- An act was refused: the sink took exactly the text of those before it, and the devices are those where it is refused.
pub record Refused (machine : Machine) (cert : Certificate Value) (b : Bench) (acts : List Act) (old new : Option (List ℕ)) (now : List DeviceRecord) (why : Refusal) : Type 0 where
  pub events : List Event
  pub text : List ℕ
  pub here : Bench
  pub done : List Act
  pub act : Act
  pub rest : List Act
  pub point : IsPoint machine cert b acts events text here done (act ∷ rest)
  pub words : AreEvents events
  pub refused : refusal machine cert here act ≡ Some why
  pub records : now ≡ devices_where_refused machine here act why
  pub sent : new ≡ appended old text

-- The acts were stopped at a point: the sink took the text up to there, and at most a front of what the next act prints. The devices
-- stand as is asked, over those that were there first and are still, and over those of the point.
pub record Stopped (machine : Machine) (cert : Certificate Value) (b : Bench) (acts : List Act) (old new : Option (List ℕ)) (Stands : (first point : List DeviceRecord) → Type 0) : Type 0 where
  pub events : List Event
  pub text : List ℕ
  pub here : Bench
  pub done : List Act
  pub rest : List Act
  pub point : IsPoint machine cert b acts events text here done rest
  pub words : AreEvents events
  pub records : Stands (still_there b.devices done) here.devices
  pub front : WroteFront (appended old text) new (next_text machine here rest)

-- ---- devices where memory was wanting

-- A device heard a part of what it has heard at a point: it feeds, hears and has left what it does there, and it kept what it had kept at
-- first, and some more of what it keeps there.
pub record IsBehind (first now point : DeviceRecord) : Type 0 where
  pub feeds : now.feeds ≡ point.feeds
  pub hears : now.hears ≡ point.hears
  pub plan : now.plan ≡ point.plan
  pub some : List ℕ
  pub more : List ℕ
  pub begins : now.kept ≡ first.kept ++ some
  pub goes_on : point.kept ≡ now.kept ++ more

-- each of some devices did; there are as many at first, now and at the point
abbrev pub AreBehind : (first now point : List DeviceRecord) → Type 0
AreBehind [] [] [] = Unit {0}
AreBehind (f ∷ fs) (d ∷ ds) (p ∷ ps) = IsBehind f d p × AreBehind fs ds ps
AreBehind _ _ _ = ⊥

-- ---- a whole run

-- The script was run until it met that: the sink took exactly the text of its run, and the devices are those where it stops.
pub record DrivenTo (machine : Machine) (image : List (Option ℕ)) (cert : Certificate Value) (devices : List DeviceRecord) (lines : List (ℕ × BenchCommand))
    (old new : Option (List ℕ)) (now : List DeviceRecord) (met : Met) : Type 0 where
  pub events : List Event
  pub text : List ℕ
  pub runs : IsBenchRun machine image cert devices lines events text now met
  pub words : AreEvents events
  pub sent : new ≡ appended old text

-- The script was run to its end, with so many steps and so many words put.
pub record DrivenWhole (machine : Machine) (image : List (Option ℕ)) (cert : Certificate Value) (devices : List DeviceRecord) (lines : List (ℕ × BenchCommand))
    (old new : Option (List ℕ)) (now : List DeviceRecord) (steps puts : ℕ) : Type 0 where
  pub events : List Event
  pub text : List ℕ
  pub runs : IsBenchRun machine image cert devices lines events text now Nothing
  pub words : AreEvents events
  pub sent : new ≡ appended old text
  pub steps_are : steps ≡ count_by is_step events
  pub puts_are : puts ≡ count_by is_put events

-- The run was stopped at a point of it: the sink took the text up to there, and at most a front of what the next act prints; the
-- devices stand as is asked.
pub record DrivenInPart (machine : Machine) (image : List (Option ℕ)) (cert : Certificate Value) (devices : List DeviceRecord) (lines : List (ℕ × BenchCommand))
    (old new : Option (List ℕ)) (Stands : (first point : List DeviceRecord) → Type 0) : Type 0 where
  pub events : List Event
  pub text : List ℕ
  pub here : Bench
  pub done : List Act
  pub rest : List Act
  pub point : IsPointOfRun machine image cert devices lines events text here done rest
  pub words : AreEvents events
  pub records : Stands (still_there devices done) here.devices
  pub front : WroteFront (appended old text) new (next_text machine here rest)

-- The sink took a front of the text of the script's run.
pub record WroteFrontOfRun (machine : Machine) (image : List (Option ℕ)) (cert : Certificate Value) (devices : List DeviceRecord) (lines : List (ℕ × BenchCommand))
    (old new : Option (List ℕ)) : Type 0 where
  pub events : List Event
  pub text : List ℕ
  pub last : List DeviceRecord
  pub met : Met
  pub runs : IsBenchRun machine image cert devices lines events text last met
  pub front : WroteFront old new text
