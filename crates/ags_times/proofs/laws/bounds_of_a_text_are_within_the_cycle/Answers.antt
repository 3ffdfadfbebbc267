use Rattle.ags_times.proofs.MeaningLaws.{cycle_kept}
use Rattle.ags_times.proofs.laws.bounds_of_a_text_are_within_the_cycle.Goals as goal

pub returns-clause-count : goal.returns-clause-count
returns-clause-count c = λ rows text bounds is. is.are_bounds.count

pub returns-clause-cycle : goal.returns-clause-cycle
returns-clause-cycle c = cycle_kept
