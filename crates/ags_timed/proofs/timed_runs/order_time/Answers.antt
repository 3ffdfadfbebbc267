use Rattle.std.proofs.Common.{◌∙◌, sym}
use Rattle.ags_ports.proofs.OrderTimeLemmas.{time-named, time-idle}
use Rattle.ags_timed.proofs.TimedLemmas.{time_unnamed}
use Rattle.ags_timed.proofs.timed_runs.order_time.Goals as goal

pub returns-then-not-report-clause-time : goal.returns-then-not-report-clause-time
returns-then-not-report-clause-time c = sym (time-idle c.args.machine.now c.args.report.now c.if-not-report.true)

pub returns-in-Some-clause-time : goal.returns-in-Some-clause-time
returns-in-Some-clause-time c =
    c.time_of.ensures.time
    ∙ sym (time-named c.args.machine.now c.args.report.now c.in-Some.decoded.order c.in-Some.decoded.indexed c.in-Some.decoded.address c.machine_is_made_of_tables.ensures c.if-not-report.false c.in-Some.ensures.named)

pub returns-in-None-clause-time : goal.returns-in-None-clause-time
returns-in-None-clause-time c = sym (time_unnamed c.args.machine.now c.args.report.now c.in-None.ensures.named)
