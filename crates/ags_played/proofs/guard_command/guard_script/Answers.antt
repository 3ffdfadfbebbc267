use Rattle.std.proofs.Common.{inl}
use Rattle.std.proofs.lemmas.Result.{err_from_is_err_and}
use Rattle.ags_program.specs.Text.{verdict_line}
use Rattle.ags_played.proofs.GuardLemmas.{play_says, refusal_said, verdict_in_part}
use Rattle.ags_played.proofs.guard_command.guard_script.Goals as goal

pub returns-in_err-send_line-clause-says : goal.returns-in_err-send_line-clause-says
returns-in_err-send_line-clause-says g c =
    let p = err_from_is_err_and c.from_residual.result c.from_residual.ensures.1 in
    rw p.1 (inl (verdict_in_part c.args.pair.now c.args.script.now (g.K.Sink.told c.args.out.now) (g.K.Sink.told c.args.out.now) (g.K.Sink.told c.send_line.new.out)
    c.requires.source c.args.verdict.now c.machine_is_made_of_tables.ensures c.requires.verdict
    (c.in_err-send_line.ensures.front (verdict_line c.args.verdict.now) c.verdict_line.ensures)))

pub returns-in-Certified-clause-says : goal.returns-in-Certified-clause-says
returns-in-Certified-clause-says g c =
    play_says c.args.pair.now c.args.script.now (g.K.Sink.told c.args.out.now) (g.K.Sink.told c.send_line.new.out) (g.K.Sink.told c.play_guarded.new.out)
    c.requires.source c.in-Certified.rows c.in-Certified.cases c.play_guarded.result (rw c.in-Certified.is at c.requires.verdict)
    (rw c.in-Certified.is at (c.in_ok-send_line.ensures.sent (verdict_line c.args.verdict.now) c.verdict_line.ensures)) c.play_guarded.ensures.guards

pub returns-in-Refused-clause-says : goal.returns-in-Refused-clause-says
returns-in-Refused-clause-says g c =
    refusal_said c.args.pair.now c.args.script.now (g.K.Sink.told c.args.out.now) (g.K.Sink.told c.args.out.now) (g.K.Sink.told c.send_line.new.out)
    c.requires.source c.in-Refused.field-0 (rw c.in-Refused.is at c.requires.verdict)
    (rw c.in-Refused.is at (c.in_ok-send_line.ensures.sent (verdict_line c.args.verdict.now) c.verdict_line.ensures))
