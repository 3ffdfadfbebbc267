use Rattle.ags_safe.proofs.FaultLemmas.{one_first}
use Rattle.ags_safe.proofs.laws.first_fault_is_one.Goals as goal

pub returns : goal.returns
returns g c = λ machine image cert fault other is. one_first g.D.Domain.meaning g.met.D.Domain.lawful machine image cert is fault other
