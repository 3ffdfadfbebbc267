use Rattle.std.proofs.Common.{rules}
use Rattle.ags_timed.proofs.timed_runs.is_running.Goals as goal

pub returns-in-Running : goal.returns-in-Running
returns-in-Running c = search rules
