use Rattle.ags_scale.proofs.NextLemmas.{some_next, one_next}
use Rattle.ags_scale.proofs.laws.tags_after_an_event_are_one.Goals as goal

pub returns-clause-some : goal.returns-clause-some
returns-clause-some c = λ machine scales s event before machine_is. some_next machine s scales event before machine_is

pub returns-clause-one : goal.returns-clause-one
returns-clause-one c = λ machine scales s event before one other p r. one_next machine s scales event before one other p r
