use Rattle.std.proofs.Common.{rules}
use Rattle.ags_text.proofs.NumeralLemmas.{text_of_digits, decimal7-IsAscii}
use Rattle.ags_text.proofs.seven_digits.SevenDigitsDisplay.fmt.Goals as goal

pub unwrap-requires : goal.unwrap-requires
unwrap-requires g c = text_of_digits _ _ _ c.from_utf8.result c.from_utf8.ensures.cases (rw c.decimal7-digits.ensures (decimal7-IsAscii _))

pub returns-clause-writes : goal.returns-clause-writes
returns-clause-writes g c = search rules
