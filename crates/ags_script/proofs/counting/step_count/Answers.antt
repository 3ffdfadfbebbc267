use Rattle.std.proofs.Common.{rules}
use Rattle.ags_script.proofs.counting.step_count.Goals as goal

pub returns-in-Cycle : goal.returns-in-Cycle
returns-in-Cycle c = search rules
