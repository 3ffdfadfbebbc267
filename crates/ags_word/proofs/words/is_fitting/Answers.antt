use Rattle.std.proofs.Common.{arith}
use Rattle.std.proofs.lemmas.Grind.{common_steps}
use Rattle.ags_word.specs.Word.{fits}
use Rattle.ags_word.proofs.words.is_fitting.Goals as goal

pub returns-then-n-geminus131072 : goal.returns-then-n-geminus131072
unfolding fits
returns-then-n-geminus131072 c = grind (arith, common_steps)

pub returns-else-n-geminus131072 : goal.returns-else-n-geminus131072
unfolding fits
returns-else-n-geminus131072 c = grind (arith, common_steps)
