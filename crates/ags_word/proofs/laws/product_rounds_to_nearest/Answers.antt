use Rattle.ags_word.proofs.RoundingLaws.{IsNearest-product, nearest_one, fits-nearest, over-nearest}
use Rattle.ags_word.proofs.laws.product_rounds_to_nearest.Goals as goal

pub returns-clause-nearest : goal.returns-clause-nearest
returns-clause-nearest c = IsNearest-product

pub returns-clause-one : goal.returns-clause-one
returns-clause-one c = nearest_one

pub returns-clause-fits : goal.returns-clause-fits
returns-clause-fits c = fits-nearest

pub returns-clause-over : goal.returns-clause-over
returns-clause-over c = over-nearest
