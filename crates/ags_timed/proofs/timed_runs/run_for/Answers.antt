use Rattle.std.proofs.Common.{◌≡◌, ◌∙◌, arith}
use Rattle.ags_ports.specs.OrderTime.{order_time}
use Rattle.ags_timed.proofs.TimedLemmas.{measure_falls, seen_more}
use Rattle.ags_timed.proofs.timed_runs.run_for.Goals as goal

pub steps-smaller : goal.steps-smaller
steps-smaller g c =
    let time : c.from-spent.result ≡ order_time c.args.machine.now c.seen_step-report.result = c.from-spent.ensures ∙ c.order_time.ensures.time in
    rw time
    (measure_falls c.args.machine.now c.args.micros c.steps.spent c.steps.core c.seen_step-report.result c.seen_step-report.new.core c.machine_is_made_of_tables.ensures
    (c.is_running.ensures.running c.if-is_running.true) c.seen_step-report.ensures.step c.steps-test.true)

pub steps-preserved : goal.steps-preserved
steps-preserved g c =
    let time : c.from-spent.result ≡ order_time c.args.machine.now c.seen_step-report.result = c.from-spent.ensures ∙ c.order_time.ensures.time in (
      rw time
          (seen_more g.W.Watcher.looks c.args.machine.now c.args.micros c.args.core.now c.args.watcher.now c.steps.core c.steps.watcher c.steps.spent c.seen_step-report.result c.seen_step-report.new.core
          c.seen_step-report.new.watcher c.steps.invariant.0 c.steps-test.true (c.is_running.ensures.running c.if-is_running.true) c.seen_step-report.ensures.step c.seen_step-report.ensures.look),
      omega (arith, c.from-spent.ensures, c.order_time.ensures.most, c.steps-test.true),
      c.seen_step-report.ensures.inputs ∙ c.steps.invariant.2,
      c.seen_step-report.ensures.outputs ∙ c.steps.invariant.3,
      λ is. c.seen_step-report.ensures.state (c.steps.invariant.4 is),
    )
