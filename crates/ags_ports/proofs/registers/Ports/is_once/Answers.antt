use Rattle.std.proofs.Common.{arith}
use Rattle.std.proofs.lemmas.Grind.{elements}
use Rattle.ags_ports.proofs.registers.Ports.is_once.Goals as goal

pub returns : goal.returns
returns c = grind (arith, elements)
