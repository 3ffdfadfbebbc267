use Rattle.std.proofs.Common.{◌≡◌, ◌<◌, take}
use Rattle.ags_play.specs.Bench.{with_settings}
use Rattle.ags_ports.specs.declared.machines.Machine.{Machine}
use Rattle.ags_ports.specs.State.{State}
use Rattle.ags_run.proofs.starting.start_location.Given as goal

-- the commands so far leave this location
abbrev pub invariant-loop-position : goal.invariant-loop-position
invariant-loop-position l = record {
  below : l.location < 4096;
  location : (machine : Machine) (s : State) → s.location ≡ l.usual → (with_settings machine s (take l.position l.script)).location ≡ l.location;
}
