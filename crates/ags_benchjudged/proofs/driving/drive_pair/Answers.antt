use Rattle.std.proofs.Common.{refl}
use Rattle.std.proofs.lemmas.Result.{err_from_is_err_and}
use Rattle.ags_program.specs.Text.{verdict_line}
use Rattle.ags_benchjudged.proofs.DrivingLemmas.{certified_runs, line_in_part, refused_stops}
use Rattle.ags_benchjudged.proofs.driving.drive_pair.Goals as goal

pub returns-in_err-send_line-clause-benches : goal.returns-in_err-send_line-clause-benches
returns-in_err-send_line-clause-benches g c =
    let p = err_from_is_err_and c.from_residual.result c.from_residual.ensures.1 in
    rw p.1 (line_in_part _ _ _ _ _ _ _ _ c.args.verdict.now _ refl (c.in_err-send_line.ensures.front (verdict_line c.args.verdict.now) c.verdict_line.ensures))

pub returns-in-Certified-clause-benches : goal.returns-in-Certified-clause-benches
returns-in-Certified-clause-benches g c =
    rw c.in-Certified.is (certified_runs _ _ _ _ _ _ (g.K.Sink.told c.send_line.new.out) _ _ c.in-Certified.rows c.in-Certified.cases c.run_script.result
    (rw c.in-Certified.is at (c.in_ok-send_line.ensures.sent (verdict_line c.args.verdict.now) c.verdict_line.ensures)) c.run_script.ensures.runs)

pub returns-in-Refused-clause-benches : goal.returns-in-Refused-clause-benches
returns-in-Refused-clause-benches g c =
    rw c.in-Refused.is (refused_stops c.args.pair.now.machine c.args.pair.now.source.made.image c.args.pair.now.cert _ c.args.script.now _ _ _ c.in-Refused.field-0 refl
    (rw c.in-Refused.is at (c.in_ok-send_line.ensures.sent (verdict_line c.args.verdict.now) c.verdict_line.ensures)))
