use Rattle.std.proofs.Common.{arith}
use Rattle.std.proofs.lemmas.Int.{ints}
use Rattle.ags_decimal.proofs.WordLemmas.{up_to_power}
use Rattle.ags_decimal.proofs.decimals.nearest_size.Goals as goal

pub product-requires-clause-ten : goal.product-requires-clause-ten
product-requires-clause-ten c = up_to_power 10 12 _ _ (omega arith) c.sides-ten.ensures.most_above (grind (arith, ints))

pub product-requires-clause-two : goal.product-requires-clause-two
product-requires-clause-two c = up_to_power 2 47 _ _ (omega arith) c.sides-two.ensures.most_above (grind (arith, ints))

pub product-requires-2-clause-ten : goal.product-requires-2-clause-ten
product-requires-2-clause-ten c = up_to_power 10 12 _ _ (omega arith) c.sides-ten.ensures.most_below (grind (arith, ints))

pub product-requires-2-clause-two : goal.product-requires-2-clause-two
product-requires-2-clause-two c = up_to_power 2 47 _ _ (omega arith) c.sides-two.ensures.most_below (grind (arith, ints))
