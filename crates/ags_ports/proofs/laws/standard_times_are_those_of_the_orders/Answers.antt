use Rattle.ags_ports.proofs.TimeLemmas.{AreTimes-standard, time_of-standard}
use Rattle.ags_ports.proofs.laws.standard_times_are_those_of_the_orders.Goals as goal

pub returns-clause-table : goal.returns-clause-table
returns-clause-table c = AreTimes-standard

pub returns-clause-each : goal.returns-clause-each
returns-clause-each c = time_of-standard
