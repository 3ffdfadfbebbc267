use Rattle.std.proofs.Common.{rules}
use Rattle.ags_machfile.proofs.port_tables.registers_in.Goals as goal

pub returns : goal.returns
returns c = search rules
