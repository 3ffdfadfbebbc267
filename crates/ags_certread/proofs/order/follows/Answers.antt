use Rattle.std.proofs.Common.{rules}
use Rattle.ags_certread.proofs.order.follows.Goals as goal

pub returns-then-position : goal.returns-then-position
returns-then-position c = search rules
