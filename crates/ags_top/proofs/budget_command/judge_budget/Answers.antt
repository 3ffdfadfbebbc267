use Rattle.std.proofs.Common.{◌++◌, refl}
use Rattle.ags_plan.specs.Plan.{WorkAt}
use Rattle.ags_program.specs.Text.{timed_line, verdict_line}
use Rattle.ags_program.specs.Views.{pair_of}
use Rattle.ags_program.specs.Work.{JudgePair, BudgetBehind, timed_status}
use Rattle.ags_played.proofs.JudgeLemmas.{judged_in_part, judged_whole}
use Rattle.ags_played.proofs.SendingLemmas.{fault_with, said_with}
use Rattle.ags_top.proofs.budget_command.judge_budget.Goals as goal

pub returns-clause-says : goal.returns-clause-says
returns-clause-says g c =
    let timed = c.timed_of-timed.result in
    let sequel = BudgetBehind c.args.budget.now in
    let old = g.K.Sink.told c.args.out.now in
    let new = g.K.Sink.told c.send_verdict_and.new.out in
    let text = verdict_line c.args.verdict.now ++ timed_line timed in
    rw (c.and.ensures, c.timed_status.ensures) (said_with c.send_verdict_and.result (WorkAt (JudgePair (pair_of c.args.pair.now) sequel)) old new (timed_status timed)
    (judged_whole c.args.pair.now sequel c.args.verdict.now c.requires.source c.requires.verdict old new text (timed_status timed)
    (record { timed = timed; is_timed = c.timed_of-timed.ensures; text_is = refl; status_is = refl }))
    (judged_in_part c.args.pair.now sequel c.args.verdict.now c.requires.source c.requires.verdict old new text (timed_status timed)
    (record { timed = timed; is_timed = c.timed_of-timed.ensures; text_is = refl; status_is = refl }))
    (c.send_verdict_and.ensures.sent (timed_line timed) c.timed_line-line.ensures) (c.send_verdict_and.ensures.front (timed_line timed) c.timed_line-line.ensures))

pub returns-clause-faults : goal.returns-clause-faults
returns-clause-faults g c = rw (c.and.ensures, fault_with c.send_verdict_and.result c.timed_status.result) c.send_verdict_and.ensures.faults
