use Rattle.ags_isa.proofs.OrderLemmas.{order_at_number, number_at}
use Rattle.ags_isa.proofs.laws.all_orders_stand_at_their_numbers.Goals as goal

pub returns-clause-order : goal.returns-clause-order
returns-clause-order c = order_at_number

pub returns-clause-number : goal.returns-clause-number
returns-clause-number c = number_at
