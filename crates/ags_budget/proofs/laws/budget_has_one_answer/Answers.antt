use Rattle.ags_budget.proofs.OneLemmas.{some_timed, one_timed}
use Rattle.ags_budget.proofs.laws.budget_has_one_answer.Goals as goal

pub returns-clause-some : goal.returns-clause-some
returns-clause-some c = λ machine image cert bounds machine_is image_is same. some_timed machine image cert bounds machine_is image_is same

pub returns-clause-one : goal.returns-clause-one
returns-clause-one c = λ machine image cert bounds one other machine_is p r. one_timed machine image cert bounds machine_is one other p r
