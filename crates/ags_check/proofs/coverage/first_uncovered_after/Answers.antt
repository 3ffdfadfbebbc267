use Rattle.std.proofs.Common.{rules}
use Rattle.ags_check.proofs.coverage.first_uncovered_after.Goals as goal

pub returns-in-None-clause-second : goal.returns-in-None-clause-second
returns-in-None-clause-second c = search rules
