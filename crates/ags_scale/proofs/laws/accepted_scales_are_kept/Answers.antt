use Rattle.ags_scale.proofs.TaggedLemmas.{rows_keep, scales_kept}
use Rattle.ags_scale.proofs.laws.accepted_scales_are_kept.Goals as goal

pub returns : goal.returns
returns g c = λ machine image cert scales machine_is are safe.
    scales_kept g.D.Domain.meaning g.met.D.Domain.lawful machine image cert scales machine_is
    (rows_keep g.D.Domain.meaning g.met.D.Domain.lawful machine image cert scales machine_is are) are.start safe
