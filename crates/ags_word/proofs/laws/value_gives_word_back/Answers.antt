use Rattle.ags_word.proofs.WordLaws.{fits-val, wrap-val}
use Rattle.ags_word.proofs.laws.value_gives_word_back.Goals as goal

pub returns-clause-fits : goal.returns-clause-fits
returns-clause-fits c = fits-val

pub returns-clause-word : goal.returns-clause-word
returns-clause-word c = wrap-val
