use Rattle.std.proofs.Common.{rules}
use Rattle.ags_places.proofs.placing.place_card.Goals as goal

pub returns-in-Err-clause-unplaced : goal.returns-in-Err-clause-unplaced
returns-in-Err-clause-unplaced c = search rules
