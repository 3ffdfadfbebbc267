use Rattle.ags_symbol.proofs.SplitLemmas.{sum_is_split, sum_stays}
use Rattle.ags_symbol.proofs.laws.sums_are_split.Goals as goal

pub returns-clause-sum : goal.returns-clause-sum
returns-clause-sum c = sum_is_split

pub returns-clause-known : goal.returns-clause-known
returns-clause-known c = sum_stays
