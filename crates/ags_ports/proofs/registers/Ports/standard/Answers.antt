use Rattle.std.proofs.Common.{rules}
use Rattle.ags_ports.proofs.registers.Ports.standard.Goals as goal

pub returns-clause-inputs : goal.returns-clause-inputs
returns-clause-inputs c = search rules
