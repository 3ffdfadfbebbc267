use Rattle.ags_ports.proofs.MachineLemmas.{IsMachine-standard}
use Rattle.ags_ports.proofs.laws.standard_machine_is_a_machine.Goals as goal

pub returns : goal.returns
returns c = IsMachine-standard
