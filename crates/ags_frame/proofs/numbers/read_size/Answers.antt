use Rattle.std.proofs.Common.{arith}
use Rattle.ags_frame.proofs.NumberLemmas.{small_decimal, fewer}
use Rattle.ags_frame.proofs.numbers.read_size.Goals as goal

pub returns-clause-below : goal.returns-clause-below
returns-clause-below c = small_decimal c.args.text.now c.in_ok-size.size (fewer c.args.text.now c.in_ok-size.size (omega arith) c.in_ok-size.ensures.found)
