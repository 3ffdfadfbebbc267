use Rattle.std.proofs.Common.{rules}
use Rattle.ags_core.proofs.cores.Core.pulse.Goals as goal

pub returns-then-matches-clause-after : goal.returns-then-matches-clause-after
returns-then-matches-clause-after c = search rules
