use Rattle.ags_run.proofs.StartingLemmas.{set_more}
use Rattle.ags_run.proofs.starting.set_all.Goals as goal

pub loop-position-preserved : goal.loop-position-preserved
loop-position-preserved c = record {
  state = c.set_by.ensures.state;
  so_far = set_more c.args.machine.now c.args.core.now c.loop-position.core c.set_by.new.core c.args.script.now c.loop-position.position c.nth.result c.nth.ensures
      c.loop-position.invariant.so_far c.set_by.ensures.after;
}
