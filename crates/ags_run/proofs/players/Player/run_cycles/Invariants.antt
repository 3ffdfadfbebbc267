use Rattle.std.proofs.Common.{ℕ, List}
use Rattle.std.specs.Prelude.{Option, None}
use Rattle.ags_play.specs.Act.{cycles}
use Rattle.ags_run.specs.Playing.{PlayedActs}
use Rattle.ags_run.proofs.players.Player.run_cycles.Given as goal

abbrev pub invariant-loop : goal.invariant-loop
invariant-loop l = (told : Option (List ℕ)) → PlayedActs (cycles l.counter) told told l.fn.self l.self None
