use Rattle.std.proofs.Common.{rules}
use Rattle.ags_transfer.proofs.cases.Case.decided.Goals as goal

pub returns-then-may : goal.returns-then-may
returns-then-may g c = search rules
