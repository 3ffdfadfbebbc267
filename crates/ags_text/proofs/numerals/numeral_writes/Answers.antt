use Rattle.ags_text.proofs.NumeralLemmas.{writes}
use Rattle.ags_text.proofs.numerals.numeral_writes.Goals as goal

pub returns : goal.returns
returns c = writes
