use Rattle.ags_scale.proofs.OneLemmas.{some_scaled, one_scaled}
use Rattle.ags_scale.proofs.laws.scales_have_one_answer.Goals as goal

pub returns-clause-some : goal.returns-clause-some
returns-clause-some c = λ machine image cert scales machine_is image_is. some_scaled machine image cert scales machine_is image_is

pub returns-clause-one : goal.returns-clause-one
returns-clause-one c = λ machine image cert scales one other machine_is p r. one_scaled machine image cert scales machine_is one other p r
