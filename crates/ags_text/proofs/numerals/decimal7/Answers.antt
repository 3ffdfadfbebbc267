use Rattle.std.proofs.Common.{rules}
use Rattle.ags_text.specs.Numeral.{numeral}
use Rattle.ags_text.proofs.numerals.decimal7.Goals as goal

pub returns : goal.returns
unfolding numeral
returns c = search rules
