use Rattle.std.proofs.Common.{arith}
use Rattle.ags_certtext.proofs.NumberLemmas.{small_octal}
use Rattle.ags_certtext.proofs.numbers.read_address.Goals as goal

pub overflow_cast-result : goal.overflow_cast-result
overflow_cast-result c = omega (arith, small_octal c.args.text.now c.in_ok-number.number (omega arith) c.in_ok-number.ensures.found)

pub returns-clause-below : goal.returns-clause-below
returns-clause-below c = small_octal c.args.text.now c.in_ok-number.number (omega arith) c.in_ok-number.ensures.found
