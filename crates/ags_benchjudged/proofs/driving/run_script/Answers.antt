use Rattle.std.proofs.Common.{refl, inl}
use Rattle.ags_drive.specs.BenchRun.{OutsideStart, RefusedAct}
use Rattle.ags_drive.specs.Doing.{NoDevice, NoFeed, OutsidePut}
use Rattle.ags_benchjudged.proofs.DrivingLemmas.{whole_runs, met_runs}
use Rattle.ags_benchjudged.proofs.driving.run_script.Goals as goal

pub returns-in-Ok-clause-runs : goal.returns-in-Ok-clause-runs
returns-in-Ok-clause-runs g c = whole_runs _ _ _ _ _ _ _ _ _ _ c.in-Ok.ensures.driven

pub returns-in-WriteFault-clause-runs : goal.returns-in-WriteFault-clause-runs
returns-in-WriteFault-clause-runs g c = inl (rw c.in-WriteFault.is at c.in-Err.ensures.driven)

pub returns-in-NoMemory-clause-runs : goal.returns-in-NoMemory-clause-runs
returns-in-NoMemory-clause-runs g c = inl (rw c.in-NoMemory.is at c.in-Err.ensures.driven)

pub returns-in-StartOutside-clause-runs : goal.returns-in-StartOutside-clause-runs
returns-in-StartOutside-clause-runs g c =
    met_runs _ _ _ _ _ _ (g.K.Sink.told c.drive.new.out) _ _ (OutsideStart _) c.say_met.result refl (rw c.in-StartOutside.is at c.in-Err.ensures.driven) c.say_met.ensures.ended
    (rw c.in-StartOutside.is at c.say_met.ensures.sent) (rw c.in-StartOutside.is at c.say_met.ensures.front)

pub returns-in-InputRange-clause-runs : goal.returns-in-InputRange-clause-runs
returns-in-InputRange-clause-runs g c =
    met_runs _ _ _ _ _ _ (g.K.Sink.told c.drive.new.out) _ _ (RefusedAct (OutsidePut (record { address = c.in-InputRange.address; word = c.in-InputRange.word }))) c.say_met-in-InputRange.result refl
    (rw c.in-InputRange.is at c.in-Err.ensures.driven) c.say_met-in-InputRange.ensures.ended
    (rw c.in-InputRange.is at c.say_met-in-InputRange.ensures.sent) (rw c.in-InputRange.is at c.say_met-in-InputRange.ensures.front)

pub returns-in-NoDevice-clause-runs : goal.returns-in-NoDevice-clause-runs
returns-in-NoDevice-clause-runs g c =
    met_runs _ _ _ _ _ _ (g.K.Sink.told c.drive.new.out) _ _ (RefusedAct (NoDevice c.in-NoDevice.line c.in-NoDevice.device)) c.say_met-in-NoDevice.result refl
    (rw c.in-NoDevice.is at c.in-Err.ensures.driven) c.say_met-in-NoDevice.ensures.ended
    (rw c.in-NoDevice.is at c.say_met-in-NoDevice.ensures.sent) (rw c.in-NoDevice.is at c.say_met-in-NoDevice.ensures.front)

pub returns-in-NoFeed-clause-runs : goal.returns-in-NoFeed-clause-runs
returns-in-NoFeed-clause-runs g c =
    met_runs _ _ _ _ _ _ (g.K.Sink.told c.drive.new.out) _ _ (RefusedAct (NoFeed c.in-NoFeed.line c.in-NoFeed.device)) c.say_met-in-NoFeed.result refl
    (rw c.in-NoFeed.is at c.in-Err.ensures.driven) c.say_met-in-NoFeed.ensures.ended
    (rw c.in-NoFeed.is at c.say_met-in-NoFeed.ensures.sent) (rw c.in-NoFeed.is at c.say_met-in-NoFeed.ensures.front)
