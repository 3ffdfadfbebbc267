use Rattle.ags_image.proofs.ImageLaws.{one_word_a_place}
use Rattle.ags_image.proofs.laws.each_place_once_has_one_word.Goals as goal

pub returns : goal.returns
returns c = one_word_a_place
