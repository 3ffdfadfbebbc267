use Rattle.std.proofs.Common.{sym}
use Rattle.ags_decimal.proofs.WordLemmas.{signed_over}
use Rattle.ags_decimal.proofs.decimals.word.Goals as goal

pub returns-then-size-gt131072 : goal.returns-then-size-gt131072
returns-then-size-gt131072 c =
    let over = signed_over c.args.number.now.negative c.nearest_size-size.result c.if-size-gt131072.true in
    sym (rw c.nearest_size-size.ensures at over)
