use Rattle.std.proofs.Common.{rules}
use Rattle.ags_ports.proofs.machines.Machine.time_of.Goals as goal

pub returns-clause-time : goal.returns-clause-time
returns-clause-time c = search rules
