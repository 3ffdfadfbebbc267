use Rattle.std.proofs.Common.{rules}
use Rattle.ags_ports.proofs.registers.Ports.of.Goals as goal

pub returns-else-are_registers-clause-some : goal.returns-else-are_registers-clause-some
returns-else-are_registers-clause-some c = search rules

pub returns-then-are_registers-2-clause-bad_outputs : goal.returns-then-are_registers-2-clause-bad_outputs
returns-then-are_registers-2-clause-bad_outputs c = search rules
