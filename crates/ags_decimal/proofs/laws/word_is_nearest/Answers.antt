use Rattle.ags_decimal.proofs.RoundingLaws.{denominator_some, nearest_size-nearest, nearest_one, nearest_value-not}
use Rattle.ags_decimal.proofs.laws.word_is_nearest.Goals as goal

pub returns : goal.returns
returns c = record { fraction = denominator_some; nearest = nearest_size-nearest; one = nearest_one; negative = nearest_value-not }
