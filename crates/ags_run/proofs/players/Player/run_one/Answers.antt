use Rattle.ags_run.proofs.CycleLemmas.{one_cycle, one_stopped}
use Rattle.ags_run.proofs.players.Player.run_one.Goals as goal

pub returns-in-Some : goal.returns-in-Some
returns-in-Some c = one_stopped c.args.self.now c.feed_where_zero.new.self c.in-Some.stopped c.in-Some.ensures

pub returns : goal.returns
returns c = one_cycle c.args.self.now c.feed_where_zero.new.self c.pulse.new.self c.run_cycle.new.self c.in_default.ensures c.pulse.ensures c.run_cycle.ensures
