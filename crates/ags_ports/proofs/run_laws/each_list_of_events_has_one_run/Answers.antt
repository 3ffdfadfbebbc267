use Rattle.ags_ports.proofs.RunLemmas.{some_run, one_run, run_keeps}
use Rattle.ags_ports.proofs.run_laws.each_list_of_events_has_one_run.Goals as goal

pub returns-clause-some : goal.returns-clause-some
returns-clause-some c = some_run

pub returns-clause-one : goal.returns-clause-one
returns-clause-one c = one_run

pub returns-clause-keeps : goal.returns-clause-keeps
returns-clause-keeps c = run_keeps
