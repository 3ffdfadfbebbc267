use Rattle.ags_ports.proofs.TimeLemmas.{AreTimes-standard}
use Rattle.ags_ports.proofs.time_tables.Times.standard.Goals as goal

pub invariant_of-result : goal.invariant_of-result
invariant_of-result c = AreTimes-standard

pub returns-clause-table : goal.returns-clause-table
returns-clause-table c = AreTimes-standard
