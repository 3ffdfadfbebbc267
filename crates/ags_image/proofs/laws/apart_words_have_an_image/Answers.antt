use Rattle.ags_image.proofs.ImageLaws.{some_image}
use Rattle.ags_image.proofs.laws.apart_words_have_an_image.Goals as goal

pub returns : goal.returns
returns c = some_image
