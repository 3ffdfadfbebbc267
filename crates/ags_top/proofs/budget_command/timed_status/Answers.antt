use Rattle.std.proofs.Common.{rules}
use Rattle.ags_top.proofs.budget_command.timed_status.Goals as goal

pub returns-in-Over : goal.returns-in-Over
returns-in-Over c = search rules
