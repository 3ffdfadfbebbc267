use Rattle.std.proofs.Common.{refl}
use Rattle.ags_drive.proofs.StepLemmas.{pulse_made}
use Rattle.ags_drive.proofs.stepping.pulse.Goals as goal

pub returns-clause-made : goal.returns-clause-made
returns-clause-made c = λ cert devices.
    let before = c.args.bench.now in
    pulse_made c.args.machine.now cert before (record before { core = c.act.new.self }) c.act.result devices c.steps_fit.ensures c.act.ensures.step refl refl refl
