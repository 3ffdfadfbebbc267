use Rattle.std.proofs.Common.{arith}
use Rattle.ags_script.proofs.NumberLemmas.{small_octal}
use Rattle.ags_script.proofs.numbers.read_address.Goals as goal

pub overflow_cast-result : goal.overflow_cast-result
overflow_cast-result c = omega (arith, small_octal c.args.text.now c.in_ok-number.number (omega arith) c.in_ok-number.ensures.found)
