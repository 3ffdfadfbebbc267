use Rattle.ags_word.proofs.WordLaws.{fits_in, fits_least, fits_most, fits_not}
use Rattle.ags_word.proofs.laws.fitting_numbers_are_a_range.Goals as goal

pub returns-clause-inside : goal.returns-clause-inside
returns-clause-inside c = fits_in

pub returns-clause-least : goal.returns-clause-least
returns-clause-least c = fits_least

pub returns-clause-most : goal.returns-clause-most
returns-clause-most c = fits_most

pub returns-clause-outside : goal.returns-clause-outside
returns-clause-outside c = fits_not
