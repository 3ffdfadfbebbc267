use Rattle.ags_places.proofs.NumberLemmas.{printed_number}
use Rattle.ags_places.proofs.laws.kinds_are_printed_by_their_numbers.Goals as goal

pub returns : goal.returns
returns c = printed_number
