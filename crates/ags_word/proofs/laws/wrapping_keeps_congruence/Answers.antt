use Rattle.ags_word.proofs.WordLaws.{wrap_below, fits-val-wrap, IsCongruent-val-wrap, wrap_same}
use Rattle.ags_word.proofs.laws.wrapping_keeps_congruence.Goals as goal

pub returns-clause-below : goal.returns-clause-below
returns-clause-below c = wrap_below

pub returns-clause-fits : goal.returns-clause-fits
returns-clause-fits c = fits-val-wrap

pub returns-clause-congruent : goal.returns-clause-congruent
returns-clause-congruent c = IsCongruent-val-wrap

pub returns-clause-one : goal.returns-clause-one
returns-clause-one c = wrap_same
