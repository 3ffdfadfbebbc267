use Rattle.std.proofs.Common.{refl}
use Rattle.ags_drive.proofs.StepLemmas.{step_made, step_starved}
use Rattle.ags_drive.proofs.stepping.make_step.Goals as goal

pub returns-in-Ok-clause-made : goal.returns-in-Ok-clause-made
returns-in-Ok-clause-made g c = λ cert. step_made c.args.machine.now cert c.args.bench.now _ c.act-report.result _ _ c.act-report.ensures.step refl refl refl c.in-Ok.ensures.heard

pub returns-in-Err-clause-unmade : goal.returns-in-Err-clause-unmade
returns-in-Err-clause-unmade g c = λ cert told.
    step_starved c.args.machine.now cert c.args.bench.now c.act-report.new.self c.act-report.result _ _ told c.act-report.ensures.step c.in-Err.ensures.part
