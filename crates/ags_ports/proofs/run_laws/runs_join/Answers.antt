use Rattle.ags_ports.proofs.RunLemmas.{run-append, last-append}
use Rattle.ags_ports.proofs.run_laws.runs_join.Goals as goal

pub returns-clause-run : goal.returns-clause-run
returns-clause-run c = run-append

pub returns-clause-last : goal.returns-clause-last
returns-clause-last c = last-append
