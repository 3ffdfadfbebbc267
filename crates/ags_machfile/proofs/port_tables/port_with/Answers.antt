use Rattle.std.proofs.Common.{rules}
use Rattle.ags_machfile.proofs.port_tables.port_with.Goals as goal

pub returns-in-Some-None-default-clause-port : goal.returns-in-Some-None-default-clause-port
returns-in-Some-None-default-clause-port c = search rules
