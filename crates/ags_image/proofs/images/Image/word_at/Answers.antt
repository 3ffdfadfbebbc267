use Rattle.std.proofs.Common.{rules}
use Rattle.ags_image.specs.Image.{word_at, entry_at}
use Rattle.ags_image.proofs.images.Image.word_at.Goals as goal

pub returns-clause-word : goal.returns-clause-word
unfolding word_at entry_at
returns-clause-word c = search rules
