use Rattle.std.proofs.Common.{◌≡◌, take}
use Rattle.std.specs.Prelude.{None}
use Rattle.ags_play.specs.Act.{acts_of}
use Rattle.ags_run.specs.Playing.{PlayedActs}
use Rattle.ags_run.proofs.players.Player.play_commands.Given as goal

abbrev pub invariant-loop-position : goal.invariant-loop-position
invariant-loop-position g l = record {
  played : PlayedActs (acts_of (take l.position l.script)) (g.K.Sink.told l.fn.out) (g.K.Sink.told l.out) l.fn.self l.self None;
  faults : g.K.Sink.faults l.out ≡ g.K.Sink.faults l.fn.out;
}
