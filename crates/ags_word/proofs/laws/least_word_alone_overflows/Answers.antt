use Rattle.ags_word.proofs.WordLaws.{negative_over, size_over, over-negative, over-size}
use Rattle.ags_word.proofs.laws.least_word_alone_overflows.Goals as goal

pub returns-clause-negative : goal.returns-clause-negative
returns-clause-negative c = negative_over

pub returns-clause-size : goal.returns-clause-size
returns-clause-size c = size_over

pub returns-clause-least_negative : goal.returns-clause-least_negative
returns-clause-least_negative c = over-negative

pub returns-clause-least_size : goal.returns-clause-least_size
returns-clause-least_size c = over-size
