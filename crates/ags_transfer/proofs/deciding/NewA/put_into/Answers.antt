use Rattle.std.proofs.Common.{rules}
use Rattle.ags_transfer.proofs.deciding.NewA.put_into.Goals as goal

pub returns-then-self : goal.returns-then-self
returns-then-self g c = search rules
