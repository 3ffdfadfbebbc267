use Rattle.std.proofs.Common.{arith}
use Rattle.ags_text.proofs.NumeralLemmas.{text_of_digits, IsAscii-numeral}
use Rattle.ags_text.proofs.four_digits.FourDigitsDisplay.fmt.Goals as goal

pub unwrap-requires : goal.unwrap-requires
unwrap-requires g c = text_of_digits _ _ _ c.from_utf8.result c.from_utf8.ensures.cases (rw c.octal4-digits.ensures (IsAscii-numeral 8 4 c.from.result (omega arith) (omega arith)))
