use Rattle.ags_places.proofs.PlacingLemmas.{each_within, words_within}
use Rattle.ags_places.proofs.laws.words_stand_in_the_memory.Goals as goal

pub returns : goal.returns
returns c = record { first = words_within; each = each_within }
