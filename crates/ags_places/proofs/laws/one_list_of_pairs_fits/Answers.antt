use Rattle.ags_places.proofs.RunningLemmas.{some_fits, fits_one}
use Rattle.ags_places.proofs.laws.one_list_of_pairs_fits.Goals as goal

pub returns-clause-some : goal.returns-clause-some
returns-clause-some c = some_fits

pub returns-clause-one : goal.returns-clause-one
returns-clause-one c = λ cards one other. fits_one one other cards
