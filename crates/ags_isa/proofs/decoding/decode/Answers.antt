use Rattle.std.proofs.Common.{rules}
use Rattle.ags_isa.specs.Naming.{order_word}
use Rattle.ags_isa.proofs.decoding.decode.Goals as goal

pub returns-in_err-order-clause-named : goal.returns-in_err-order-clause-named
unfolding order_word
returns-in_err-order-clause-named c = search rules

pub returns-in_err-order-clause-only : goal.returns-in_err-order-clause-only
unfolding order_word
returns-in_err-order-clause-only c = search rules

pub returns-clause-named : goal.returns-clause-named
unfolding order_word
returns-clause-named c = search rules

pub returns-clause-only : goal.returns-clause-only
unfolding order_word
returns-clause-only c = search rules
