use Rattle.std.proofs.Common.{refl, ◌∙◌}
use Rattle.ags_drive.specs.Act.{Detaches}
use Rattle.ags_drive.specs.Standing.{bench_of}
use Rattle.ags_drive.proofs.JoinLemmas.{act_unmade}
use Rattle.ags_drive.proofs.ShowLemmas.{detached_none, detached_made, detached_unsent}
use Rattle.ags_drive.proofs.leaving.detach.Goals as goal

pub returns-in_default-clause-unmade : goal.returns-in_default-clause-unmade
returns-in_default-clause-unmade g c = λ machine cert.
    detached_none machine cert c.args.bench.now c.steps_fit.ensures _ c.args.line c.args.number (g.K.Sink.told c.args.out.now) (c.in_default.ensures.none refl)

pub returns-in_default-device_line-clause-unmade : goal.returns-in_default-device_line-clause-unmade
returns-in_default-device_line-clause-unmade g c = λ machine cert.
    act_unmade machine cert (bench_of c.args.bench.now _) (Detaches c.args.line c.args.number) (g.K.Sink.told c.args.out.now) _ refl

pub returns-in-Err-clause-unmade : goal.returns-in-Err-clause-unmade
returns-in-Err-clause-unmade g c = λ machine cert.
    detached_unsent machine cert c.args.bench.now c.steps_fit.ensures _ c.args.line c.args.number c.in-Some.position c.counts_at.result.left c.counts_at.result.heard c.counts_at.result.last c.as_bytes.result.now
    (g.K.Sink.told c.args.out.now) (g.K.Sink.told c.send_line.new.out) c.in-Err.error c.in-Some.ensures.position c.in-Some.ensures.some c.counts_at.ensures.left c.counts_at.ensures.heard c.counts_at.ensures.last
    (c.as_bytes.ensures.value ∙ c.in-Ok.ensures) c.in-Err.ensures.front

pub returns-clause-made : goal.returns-clause-made
returns-clause-made g c = λ machine cert.
    detached_made machine cert c.args.bench.now c.steps_fit.ensures _ _ c.args.line c.args.number c.in-Some.position c.counts_at.result.left c.counts_at.result.heard c.counts_at.result.last c.as_bytes.result.now
    (g.K.Sink.told c.args.out.now) (g.K.Sink.told c.send_line.new.out) c.in-Some.ensures.position c.in-Some.ensures.some c.counts_at.ensures.left c.counts_at.ensures.heard c.counts_at.ensures.last
    (c.as_bytes.ensures.value ∙ c.in-Ok.ensures) c.in_default-send_line.ensures.sent c.remove_at.ensures
