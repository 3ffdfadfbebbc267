use Rattle.ags_drive.proofs.OneRunLemmas.{some_run, runs_once}
use Rattle.ags_drive.proofs.laws.acts_have_one_run.Goals as goal

pub returns-clause-some : goal.returns-clause-some
returns-clause-some c = λ machine cert b acts is. some_run machine cert is b acts

pub returns-clause-one : goal.returns-clause-one
returns-clause-one c = λ machine cert b acts events others text other now then met unmet is p q. runs_once machine cert is b acts events others text other now then met unmet p q
