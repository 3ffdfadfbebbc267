use Rattle.std.proofs.Common.{rules}
use Rattle.ags_isa.proofs.orders.Order.name.Goals as goal

pub returns-in-Clz : goal.returns-in-Clz
returns-in-Clz c = search rules
