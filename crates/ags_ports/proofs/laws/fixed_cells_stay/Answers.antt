use Rattle.ags_ports.proofs.CellLemmas.{step_fixed}
use Rattle.ags_ports.proofs.RunLemmas.{run_fixed}
use Rattle.ags_ports.proofs.laws.fixed_cells_stay.Goals as goal

pub returns-clause-step : goal.returns-clause-step
returns-clause-step c = step_fixed

pub returns-clause-run : goal.returns-clause-run
returns-clause-run c = run_fixed
