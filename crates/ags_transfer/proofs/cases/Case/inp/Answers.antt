use Rattle.std.proofs.Common.{rules}
use Rattle.ags_transfer.proofs.cases.Case.inp.Goals as goal

pub returns-in-Some : goal.returns-in-Some
returns-in-Some g c = search rules
