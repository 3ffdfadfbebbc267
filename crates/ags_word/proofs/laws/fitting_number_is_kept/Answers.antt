use Rattle.ags_word.proofs.WordLaws.{val-wrap}
use Rattle.ags_word.proofs.laws.fitting_number_is_kept.Goals as goal

pub returns : goal.returns
returns c = val-wrap
