use Rattle.std.proofs.Common.{arith}
use Rattle.std.proofs.lemmas.Grind.{common_steps}
use Rattle.ags_image.specs.Image.{entry_at}
use Rattle.ags_image.proofs.images.Image.get.Goals as goal

pub returns-clause-entry : goal.returns-clause-entry
unfolding entry_at
returns-clause-entry c = grind (arith, common_steps)
