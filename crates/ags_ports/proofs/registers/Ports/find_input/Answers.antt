use Rattle.std.proofs.Common.{rules}
use Rattle.ags_ports.proofs.registers.Ports.find_input.Goals as goal

pub returns-clause-position : goal.returns-clause-position
returns-clause-position c = search rules
