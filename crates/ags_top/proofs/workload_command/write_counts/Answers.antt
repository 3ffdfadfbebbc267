use Rattle.ags_plan.specs.Plan.{WorkAt}
use Rattle.ags_program.specs.Views.{pair_of}
use Rattle.ags_program.specs.Work.{JudgePair, CountsInstead, verdict_status}
use Rattle.ags_played.proofs.SendingLemmas.{fault_with, said_with}
use Rattle.ags_top.proofs.WorkloadLemmas.{counts_said, counts_said_in_part}
use Rattle.ags_top.proofs.workload_command.write_counts.Goals as goal

pub returns-clause-says : goal.returns-clause-says
returns-clause-says g c =
    let old = g.K.Sink.told c.args.out.now in
    let new = g.K.Sink.told c.send_line.new.out in
    rw (c.and.ensures, c.verdict_status.ensures) (said_with c.send_line.result (WorkAt (JudgePair (pair_of c.args.pair.now) (CountsInstead c.args.size))) old new (verdict_status c.args.verdict.now)
    (counts_said c.args.pair.now c.args.size old new c.args.verdict.now c.requires.source c.requires.verdict)
    (counts_said_in_part c.args.pair.now c.args.size old new c.args.verdict.now c.requires.source c.requires.verdict)
    (c.send_line.ensures.sent _ c.counts_line-line.ensures) (c.send_line.ensures.front _ c.counts_line-line.ensures))

pub returns-clause-faults : goal.returns-clause-faults
returns-clause-faults g c = rw (c.and.ensures, fault_with c.send_line.result c.verdict_status.result) c.send_line.ensures.faults
