use Rattle.std.proofs.Common.{◌∙◌}
use Rattle.ags_timed.proofs.TimedLemmas.{steps_further}
use Rattle.ags_timed.proofs.timed_runs.run_steps.Goals as goal

pub loop-preserved : goal.loop-preserved
loop-preserved g c = (
  steps_further g.W.Watcher.looks c.args.machine.now c.loop.counter c.args.core.now c.args.watcher.now c.loop.core c.loop.watcher c.seen_step.result c.seen_step.new.core
      c.seen_step.new.watcher c.loop.invariant.0 c.seen_step.ensures.step c.seen_step.ensures.look,
  c.seen_step.ensures.inputs ∙ c.loop.invariant.1,
  c.seen_step.ensures.outputs ∙ c.loop.invariant.2,
  λ is. c.seen_step.ensures.state (c.loop.invariant.3 is),
)
