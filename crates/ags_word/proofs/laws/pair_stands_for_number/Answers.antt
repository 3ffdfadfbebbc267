use Rattle.ags_word.proofs.LongLaws.{fits_long-long, long-pair}
use Rattle.ags_word.proofs.laws.pair_stands_for_number.Goals as goal

pub returns-clause-range : goal.returns-clause-range
returns-clause-range c = fits_long-long

pub returns-clause-number : goal.returns-clause-number
returns-clause-number c = long-pair
