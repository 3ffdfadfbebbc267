use Rattle.ags_ports.proofs.ChangeLemmas.{cells_told, inputs_told, outputs_told}
use Rattle.ags_ports.proofs.laws.changes_are_told.Goals as goal

pub returns-clause-cells : goal.returns-clause-cells
returns-clause-cells c = cells_told

pub returns-clause-inputs : goal.returns-clause-inputs
returns-clause-inputs c = inputs_told

pub returns-clause-outputs : goal.returns-clause-outputs
returns-clause-outputs c = outputs_told
