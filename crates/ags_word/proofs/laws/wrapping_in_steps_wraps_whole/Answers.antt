use Rattle.ags_word.proofs.WordLaws.{wrap-add, wrap-sub, wrap-neg}
use Rattle.ags_word.proofs.laws.wrapping_in_steps_wraps_whole.Goals as goal

pub returns-clause-sum : goal.returns-clause-sum
returns-clause-sum c = wrap-add

pub returns-clause-difference : goal.returns-clause-difference
returns-clause-difference c = wrap-sub

pub returns-clause-negative : goal.returns-clause-negative
returns-clause-negative c = wrap-neg
