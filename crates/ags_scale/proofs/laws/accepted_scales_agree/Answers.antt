use Rattle.ags_scale.proofs.AcceptedLemmas.{of_agree, to_agree}
use Rattle.ags_scale.proofs.laws.accepted_scales_agree.Goals as goal

pub returns-clause-accepted : goal.returns-clause-accepted
returns-clause-accepted c = of_agree

pub returns-clause-agree : goal.returns-clause-agree
returns-clause-agree c = λ machine image cert scales answer machine_is are is. to_agree machine image cert scales machine_is answer are is
