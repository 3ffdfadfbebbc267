use Rattle.ags_places.proofs.PlacingLemmas.{lines_of_cards_follow}
use Rattle.ags_places.proofs.laws.card_lines_follow.Goals as goal

pub returns : goal.returns
returns c = lines_of_cards_follow
