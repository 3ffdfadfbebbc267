use Rattle.std.proofs.Common.{List, ℕ, Option, ap, ◌∙◌}
use Rattle.std.proofs.lemmas.Result.{err_from_is_err_and, on_ok_weaker, on_err_weaker}
use Rattle.ags_outside.specs.Sink.{appended, appended_twice, front_in_first, front_in_second}
use Rattle.ags_program.specs.Text.{verdict_line}
use Rattle.ags_top.proofs.sending.send_verdict_and.Goals as goal

pub returns-in_err-send_line-clause-front : goal.returns-in_err-send_line-clause-front
returns-in_err-send_line-clause-front g c = λ text is.
    let p = err_from_is_err_and c.from_residual.result c.from_residual.ensures.1 in
    let line = verdict_line c.args.verdict.now in
    rw p.1 (front_in_first line text (c.in_err-send_line.ensures.front line c.verdict_line.ensures))

pub returns-clause-sent : goal.returns-clause-sent
returns-clause-sent g c = λ text is.
    let line = verdict_line c.args.verdict.now in
    let said = c.in_ok-send_line.ensures.sent line c.verdict_line.ensures in
    on_ok_weaker c.send_line-2.result
    (λ sent. sent ∙ ap (λ (o : Option (List ℕ)). appended o text) said ∙ appended_twice (g.K.Sink.told c.args.out.now) line text)
    (c.send_line-2.ensures.sent text is)

pub returns-clause-front : goal.returns-clause-front
returns-clause-front g c = λ text is.
    let line = verdict_line c.args.verdict.now in
    on_err_weaker c.send_line-2.result
    (λ front. front_in_second line text (c.in_ok-send_line.ensures.sent line c.verdict_line.ensures) front) (c.send_line-2.ensures.front text is)
