use Rattle.ags_image.proofs.ImageLaws.{image_of_nothing, image_of_word_more}
use Rattle.ags_image.proofs.laws.image_is_made_word_by_word.Goals as goal

pub returns-clause-first : goal.returns-clause-first
returns-clause-first c = image_of_nothing

pub returns-clause-word : goal.returns-clause-word
returns-clause-word c = image_of_word_more
