use Rattle.ags_symbol.proofs.SumLemmas.{sum_none, unknown_none, values_sum}
use Rattle.ags_symbol.proofs.laws.sums_are_of_the_terms_values.Goals as goal

pub returns-clause-none : goal.returns-clause-none
returns-clause-none c = λ symbols here terms. (sum_none symbols here terms, unknown_none symbols here terms)

pub returns-clause-some : goal.returns-clause-some
returns-clause-some c = values_sum
