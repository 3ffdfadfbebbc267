use Rattle.std.proofs.Common.{◌++◌, refl}
use Rattle.ags_plan.specs.Plan.{WorkAt}
use Rattle.ags_program.specs.Text.{scaled_line, verdict_line}
use Rattle.ags_program.specs.Views.{pair_of}
use Rattle.ags_program.specs.Work.{JudgePair, ScalesBehind, scaled_status}
use Rattle.ags_played.proofs.JudgeLemmas.{judged_in_part, judged_whole}
use Rattle.ags_played.proofs.SendingLemmas.{fault_with, said_with}
use Rattle.ags_top.proofs.scales_command.judge_scales.Goals as goal

pub returns-clause-says : goal.returns-clause-says
returns-clause-says g c =
    let answer = c.scaled_of-answer.result in
    let sequel = ScalesBehind c.args.scales.now in
    let old = g.K.Sink.told c.args.out.now in
    let new = g.K.Sink.told c.send_verdict_and.new.out in
    let text = verdict_line c.args.verdict.now ++ scaled_line answer in
    rw (c.and.ensures, c.scaled_status.ensures) (said_with c.send_verdict_and.result (WorkAt (JudgePair (pair_of c.args.pair.now) sequel)) old new (scaled_status answer)
    (judged_whole c.args.pair.now sequel c.args.verdict.now c.requires.source c.requires.verdict old new text (scaled_status answer)
    (record { answer = answer; is_scaled = c.scaled_of-answer.ensures; text_is = refl; status_is = refl }))
    (judged_in_part c.args.pair.now sequel c.args.verdict.now c.requires.source c.requires.verdict old new text (scaled_status answer)
    (record { answer = answer; is_scaled = c.scaled_of-answer.ensures; text_is = refl; status_is = refl }))
    (c.send_verdict_and.ensures.sent (scaled_line answer) c.scaled_line-line.ensures) (c.send_verdict_and.ensures.front (scaled_line answer) c.scaled_line-line.ensures))

pub returns-clause-faults : goal.returns-clause-faults
returns-clause-faults g c = rw (c.and.ensures, fault_with c.send_verdict_and.result c.scaled_status.result) c.send_verdict_and.ensures.faults
