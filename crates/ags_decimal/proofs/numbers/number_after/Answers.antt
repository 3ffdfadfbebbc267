use Rattle.std.proofs.Common.{get_or, arith}
use Rattle.ags_decimal.proofs.NumberLemmas.{number_after-step, digits-step, number-step}
use Rattle.ags_decimal.proofs.numbers.number_after.Goals as goal

pub loop-byte-preserved : goal.loop-byte-preserved
loop-byte-preserved c =
    let text = c.args.text.now in
    let i = c.loop-byte.byte-index in
    let digits = digits-step i text (omega arith) c.loop-byte.invariant.digits in
    record {
      value = number_after-step c.loop-byte.number c.from.result i c.args.start text (omega arith) c.from.ensures c.loop-byte.invariant.value;
      small = number-step c.loop-byte.number c.from.result (get_or text i 0) c.args.before i digits.0 c.from.ensures c.loop-byte.invariant.small;
      digits = digits.1;
    }
