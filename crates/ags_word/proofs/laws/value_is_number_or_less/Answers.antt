use Rattle.ags_word.proofs.WordLaws.{val-low, val-high, val_least, val_most, val_same}
use Rattle.ags_word.proofs.laws.value_is_number_or_less.Goals as goal

pub returns-clause-low : goal.returns-clause-low
returns-clause-low c = val-low

pub returns-clause-high : goal.returns-clause-high
returns-clause-high c = val-high

pub returns-clause-least : goal.returns-clause-least
returns-clause-least c = val_least

pub returns-clause-most : goal.returns-clause-most
returns-clause-most c = val_most

pub returns-clause-one : goal.returns-clause-one
returns-clause-one c = val_same
