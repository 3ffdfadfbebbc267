use Rattle.std.proofs.Common.{◌∙◌, arith}
use Rattle.std.proofs.lemmas.List.{length-set}
use Rattle.ags_isa.specs.Code.{order_of}
use Rattle.ags_isa.proofs.CodeLemmas.{one_more, orders_made}
use Rattle.ags_isa.proofs.code_tables.orders_of.Goals as goal

pub loop-code-preserved : goal.loop-code-preserved
loop-code-preserved c = rw c.order_of.ensures record {
  long = length-set c.loop-code.orders c.loop-code.code (order_of c.args.table.now c.loop-code.code) ∙ c.loop-code.invariant.long;
  earlier = one_more c.args.table.now c.loop-code.orders c.loop-code.code c.loop-code.invariant.long c.loop-code-test.true c.loop-code.invariant.earlier;
}

pub returns : goal.returns
returns c = orders_made c.args.table.now c.loop-code.orders c.loop-code.invariant.long
    (λ k below. c.loop-code.invariant.earlier k (omega (arith, below, c.loop-code-test.false)))
