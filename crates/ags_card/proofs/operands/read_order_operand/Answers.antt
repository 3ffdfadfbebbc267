use Rattle.std.proofs.Common.{arith}
use Rattle.ags_card.proofs.TermLemmas.{without_index_short}
use Rattle.ags_card.proofs.operands.read_order_operand.Goals as goal

pub read-requires : goal.read-requires
read-requires c = rw c.without_index.ensures (omega (arith, without_index_short c.args.operand.now))
