use Rattle.ags_ports.proofs.ChangeLemmas.{ran_reads, reads_ran, idle_told, here_told}
use Rattle.ags_ports.proofs.laws.order_that_is_read_runs.Goals as goal

pub returns-clause-only : goal.returns-clause-only
returns-clause-only c = ran_reads

pub returns-clause-runs : goal.returns-clause-runs
returns-clause-runs c = reads_ran

pub returns-clause-idle_report : goal.returns-clause-idle_report
returns-clause-idle_report c = idle_told

pub returns-clause-here : goal.returns-clause-here
returns-clause-here c = here_told
