use Rattle.std.proofs.Common.{refl, arith, ◌∙◌}
use Rattle.std.proofs.lemmas.Result.{on_ok_weaker, MatchResult-weaker}
use Rattle.ags_drive.specs.Act.{ShowsDevice}
use Rattle.ags_drive.specs.Standing.{bench_of}
use Rattle.ags_drive.proofs.GiveLemmas.{none_past}
use Rattle.ags_drive.proofs.JoinLemmas.{act_unmade}
use Rattle.ags_drive.proofs.ShowLemmas.{left_past, left_made, left_unsent}
use Rattle.ags_drive.proofs.leaving.show_left.Goals as goal

pub returns-then-position-len-clause-made : goal.returns-then-position-len-clause-made
returns-then-position-len-clause-made g c = λ machine cert.
    left_past machine cert c.args.bench.now c.steps_fit.ensures _ c.args.position (g.K.Sink.told c.args.out.now)
    (none_past _ c.args.devices.now.items c.args.position (omega (arith, c.if-position-len.true, c.len.ensures)))

pub returns-in_default-clause-unmade : goal.returns-in_default-clause-unmade
returns-in_default-clause-unmade g c = λ machine cert. act_unmade machine cert (bench_of c.args.bench.now _) (ShowsDevice c.args.position) (g.K.Sink.told c.args.out.now) _ refl

pub returns-clause-made : goal.returns-clause-made
returns-clause-made g c =
    on_ok_weaker c.send_line.result
    (λ sent machine cert.
    left_made machine cert c.args.bench.now c.steps_fit.ensures _ c.args.position c.counts_at.result.left c.counts_at.result.heard c.counts_at.result.last c.as_bytes.result.now
    (g.K.Sink.told c.args.out.now) (g.K.Sink.told c.send_line.new.out) c.is_there.ensures c.counts_at.ensures.left c.counts_at.ensures.heard c.counts_at.ensures.last
    (c.as_bytes.ensures.value ∙ c.in-Ok.ensures) sent)
    c.send_line.ensures.sent

pub returns-clause-unmade : goal.returns-clause-unmade
returns-clause-unmade g c =
    MatchResult-weaker c.send_line.result c.send_line.ensures.front (λ x h. h)
    (λ met front machine cert.
    left_unsent machine cert c.args.bench.now c.steps_fit.ensures _ c.args.position c.counts_at.result.left c.counts_at.result.heard c.counts_at.result.last c.as_bytes.result.now
    (g.K.Sink.told c.args.out.now) (g.K.Sink.told c.send_line.new.out) met c.is_there.ensures c.counts_at.ensures.left c.counts_at.ensures.heard c.counts_at.ensures.last
    (c.as_bytes.ensures.value ∙ c.in-Ok.ensures) front)
