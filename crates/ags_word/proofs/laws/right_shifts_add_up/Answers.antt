use Rattle.ags_word.proofs.LongLaws.{shifted_right-floor, floor_one, fits_long-shifted_right, shifted_right-add}
use Rattle.ags_word.proofs.laws.right_shifts_add_up.Goals as goal

pub returns-clause-floor : goal.returns-clause-floor
returns-clause-floor c = shifted_right-floor

pub returns-clause-one : goal.returns-clause-one
returns-clause-one c = floor_one

pub returns-clause-range : goal.returns-clause-range
returns-clause-range c = fits_long-shifted_right

pub returns-clause-add : goal.returns-clause-add
returns-clause-add c = shifted_right-add
