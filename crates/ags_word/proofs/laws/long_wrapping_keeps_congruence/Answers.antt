use Rattle.ags_word.proofs.LongLaws.{fits_long-wrap_long, wrap_long-fits, IsCongruent-wrap_long, wrap_long_same}
use Rattle.ags_word.proofs.laws.long_wrapping_keeps_congruence.Goals as goal

pub returns-clause-range : goal.returns-clause-range
returns-clause-range c = fits_long-wrap_long

pub returns-clause-kept : goal.returns-clause-kept
returns-clause-kept c = wrap_long-fits

pub returns-clause-congruent : goal.returns-clause-congruent
returns-clause-congruent c = IsCongruent-wrap_long

pub returns-clause-one : goal.returns-clause-one
returns-clause-one c = wrap_long_same
