use Rattle.std.proofs.Common.{rules}
use Rattle.ags_image.specs.Image.{with_word}
use Rattle.ags_image.proofs.images.Image.set.Goals as goal

pub returns-clause-word : goal.returns-clause-word
unfolding with_word
returns-clause-word c = search rules
