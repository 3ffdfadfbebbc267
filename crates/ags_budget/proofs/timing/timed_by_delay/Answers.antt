use Rattle.std.proofs.Common.{rules}
use Rattle.ags_budget.proofs.timing.timed_by_delay.Goals as goal

pub returns-then-bound-time-clause-late : goal.returns-then-bound-time-clause-late
returns-then-bound-time-clause-late c = search rules
