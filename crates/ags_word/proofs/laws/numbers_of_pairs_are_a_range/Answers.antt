use Rattle.ags_word.proofs.LongLaws.{fits_long_in, fits_long_least, fits_long_most, fits_long_not}
use Rattle.ags_word.proofs.laws.numbers_of_pairs_are_a_range.Goals as goal

pub returns-clause-inside : goal.returns-clause-inside
returns-clause-inside c = fits_long_in

pub returns-clause-least : goal.returns-clause-least
returns-clause-least c = fits_long_least

pub returns-clause-most : goal.returns-clause-most
returns-clause-most c = fits_long_most

pub returns-clause-outside : goal.returns-clause-outside
returns-clause-outside c = fits_long_not
