use Rattle.std.proofs.Common.{rules}
use Rattle.ags_isa.proofs.orders.Order.has_name.Goals as goal

pub returns : goal.returns
returns c = search rules
