use Rattle.ags_image.proofs.ImageLaws.{image_same}
use Rattle.ags_image.proofs.laws.entries_make_image.Goals as goal

pub returns : goal.returns
returns c = image_same
