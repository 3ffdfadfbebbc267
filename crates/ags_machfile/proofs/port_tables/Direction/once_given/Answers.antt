use Rattle.std.proofs.Common.{rules}
use Rattle.ags_machfile.proofs.port_tables.Direction.once_given.Goals as goal

pub returns-in-None : goal.returns-in-None
returns-in-None c = search rules
