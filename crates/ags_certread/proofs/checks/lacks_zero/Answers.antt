use Rattle.std.proofs.Common.{rules}
use Rattle.ags_certread.proofs.checks.lacks_zero.Goals as goal

pub returns-else-port : goal.returns-else-port
returns-else-port c = search rules
