use Rattle.std.proofs.Common.{◌≡◌, take}
use Rattle.ags_play.specs.Bench.{with_settings}
use Rattle.ags_ports.specs.State.{IsState}
use Rattle.ags_run.proofs.starting.set_all.Given as goal

-- all is set that the commands so far set, save the location
abbrev pub invariant-loop-position : goal.invariant-loop-position
invariant-loop-position l = record {
  state : IsState l.machine l.core;
  so_far : l.core ≡ record (with_settings l.machine l.fn.core (take l.position l.script)) { location = l.fn.core.location };
}
