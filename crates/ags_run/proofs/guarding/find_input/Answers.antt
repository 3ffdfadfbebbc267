use Rattle.ags_certtype.specs.Cert.{certificate_of}
use Rattle.ags_run.proofs.GuardingLemmas.{one_more_input}
use Rattle.ags_run.proofs.guarding.find_input.Goals as goal

pub loop-position-preserved : goal.loop-position-preserved
loop-position-preserved c = one_more_input c.args.machine.now (certificate_of c.args.cert.now) c.args.core.now c.loop-position.position
    c.loop-position.invariant
    (c.is_input_inside.ensures.0 c.if-not-is_input_inside.false)
