use Rattle.ags_ports.proofs.StepLemmas.{some_step, one_step}
use Rattle.ags_ports.proofs.laws.each_event_has_one_step.Goals as goal

pub returns-clause-some : goal.returns-clause-some
returns-clause-some c = some_step

pub returns-clause-one : goal.returns-clause-one
returns-clause-one c = one_step
