use Rattle.ags_image.proofs.ImageLaws.{one_image}
use Rattle.ags_image.proofs.laws.words_have_one_image.Goals as goal

pub returns : goal.returns
returns c = one_image
