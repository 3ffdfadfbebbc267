use Rattle.ags_isa.proofs.OrderLemmas.{order_number-below, order_number-injective, order_name-injective}
use Rattle.ags_isa.proofs.laws.orders_differ.Goals as goal

pub returns-clause-number : goal.returns-clause-number
returns-clause-number c = order_number-injective

pub returns-clause-name : goal.returns-clause-name
returns-clause-name c = order_name-injective

pub returns-clause-below : goal.returns-clause-below
returns-clause-below c = order_number-below
