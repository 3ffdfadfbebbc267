use Rattle.std.proofs.Common.{arith}
use Rattle.ags_text.proofs.NumeralLemmas.{text_of_digits, IsAscii-numeral}
use Rattle.ags_word.proofs.six_digits.SixDigitsDisplay.fmt.Goals as goal

pub unwrap-requires : goal.unwrap-requires
unwrap-requires g c =
    text_of_digits _ _ _ c.from_utf8.result c.from_utf8.ensures.cases (rw c.octal6-digits.ensures (IsAscii-numeral 8 6 c.args.self.now.0 (omega arith) (omega arith)))
