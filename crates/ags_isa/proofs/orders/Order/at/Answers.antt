use Rattle.ags_isa.proofs.OrderLemmas.{number_at}
use Rattle.ags_isa.proofs.orders.Order.at.Goals as goal

pub returns : goal.returns
returns c = number_at c.args.number _ c.requires
