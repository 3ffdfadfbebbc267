use Rattle.std.proofs.Common.{rules}
use Rattle.ags_core.proofs.cores.Core.next_location.Goals as goal

pub returns-clause-next : goal.returns-clause-next
returns-clause-next c = search rules
