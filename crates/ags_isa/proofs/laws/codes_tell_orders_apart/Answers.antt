use Rattle.ags_isa.proofs.CodeLemmas.{standard_are_codes, code_of-injective, code_of-below, order_of-found, order_of-code}
use Rattle.ags_isa.proofs.laws.codes_tell_orders_apart.Goals as goal

pub returns-clause-standard : goal.returns-clause-standard
returns-clause-standard c = standard_are_codes

pub returns-clause-order : goal.returns-clause-order
returns-clause-order c = λ table order other are same. code_of-injective table are order other same

pub returns-clause-below : goal.returns-clause-below
returns-clause-below c = λ table order are. code_of-below table are order

pub returns-clause-found : goal.returns-clause-found
returns-clause-found c = λ table code order are same. order_of-code table code are order same

pub returns-clause-only : goal.returns-clause-only
returns-clause-only c = order_of-found
