use Rattle.std.proofs.Common.{rules}
use Rattle.ags_plan.proofs.saying.settle.Goals as goal

pub returns-in-Err-NoMemory : goal.returns-in-Err-NoMemory
returns-in-Err-NoMemory g c = search rules
