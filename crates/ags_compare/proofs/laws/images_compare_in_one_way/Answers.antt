use Rattle.std.proofs.Common.{refl}
use Rattle.ags_compare.proofs.ComparisonLemmas.{some_comparison, one_comparison, equal_is_one}
use Rattle.ags_compare.proofs.laws.images_compare_in_one_way.Goals as goal

pub returns-clause-one : goal.returns-clause-one
returns-clause-one c = one_comparison

pub returns-clause-equal : goal.returns-clause-equal
returns-clause-equal c = equal_is_one

pub returns-clause-same : goal.returns-clause-same
returns-clause-same c = λ image location below. refl

pub returns-clause-some : goal.returns-clause-some
returns-clause-some c = some_comparison
