use Rattle.ags_ports.proofs.PhaseLemmas.{halts}
use Rattle.ags_ports.proofs.RunLemmas.{run_halted, run_alone}
use Rattle.ags_ports.proofs.laws.nothing_leaves_a_halt.Goals as goal

pub returns-clause-step : goal.returns-clause-step
returns-clause-step c = halts

pub returns-clause-run : goal.returns-clause-run
returns-clause-run c = run_halted

pub returns-clause-run_alone : goal.returns-clause-run_alone
returns-clause-run_alone c = run_alone
