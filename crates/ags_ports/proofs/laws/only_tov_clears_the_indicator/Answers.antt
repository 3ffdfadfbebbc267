use Rattle.ags_ports.proofs.IndicatorLemmas.{overflow_sets, set_by_overflow, tov_clears}
use Rattle.ags_ports.proofs.laws.only_tov_clears_the_indicator.Goals as goal

pub returns-clause-sets : goal.returns-clause-sets
returns-clause-sets c = overflow_sets

pub returns-clause-set_by : goal.returns-clause-set_by
returns-clause-set_by c = set_by_overflow

pub returns-clause-clears : goal.returns-clause-clears
returns-clause-clears c = tov_clears
