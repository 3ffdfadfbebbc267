use Rattle.std.proofs.Common.{rules}
use Rattle.ags_budget.proofs.covering.LesserServing.serves.Goals as goal

pub returns : goal.returns
returns c = search rules
