use Rattle.std.proofs.Common.{◌∙◌}
use Rattle.ags_card.proofs.OperationLemmas.{of_order, of_other}
use Rattle.ags_card.proofs.operations.operation_named.Goals as goal

pub returns-in-Some : goal.returns-in-Some
returns-in-Some c = of_order c.args.text.now c.in-Some.order c.in-Some.ensures.found

pub returns-in-None : goal.returns-in-None
returns-in-None c = c.first_named.ensures ∙ of_other c.args.text.now c.order_named.result c.in-None.is c.order_named.ensures.only
