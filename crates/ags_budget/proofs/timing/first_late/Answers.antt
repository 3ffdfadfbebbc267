use Rattle.std.proofs.Common.{rules}
use Rattle.ags_budget.proofs.timing.first_late.Goals as goal

pub returns-in-None-clause-in_time : goal.returns-in-None-clause-in_time
returns-in-None-clause-in_time c = search rules
