use Rattle.std.proofs.Common.{rules}
use Rattle.ags_run.proofs.acts.carry_in.Goals as goal

pub returns-in-Running : goal.returns-in-Running
returns-in-Running c = search rules
