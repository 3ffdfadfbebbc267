use Rattle.std.proofs.Common.{rules}
use Rattle.ags_scale.proofs.taking.first_lost.Goals as goal

pub returns-in-None-clause-taken : goal.returns-in-None-clause-taken
returns-in-None-clause-taken c = search rules
