use Rattle.ags_safe.proofs.FaultLemmas.{accepted_none}
use Rattle.ags_safe.proofs.AcceptanceLemmas.{accepted_unless}
use Rattle.ags_safe.proofs.laws.accepted_is_that_no_item_fails.Goals as goal

pub returns-clause-none : goal.returns-clause-none
returns-clause-none g c = λ machine image cert item fault is. accepted_none g.D.Domain.meaning g.met.D.Domain.lawful machine image cert is item fault

pub returns-clause-accepted : goal.returns-clause-accepted
returns-clause-accepted g c = accepted_unless g.D.Domain.meaning
