use Rattle.std.proofs.Common.{rules}
use Rattle.ags_budget.proofs.covering.LeavingServing.serves.Goals as goal

pub returns : goal.returns
returns c = search rules
