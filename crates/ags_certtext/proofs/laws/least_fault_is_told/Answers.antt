use Rattle.ags_certtext.proofs.LeastLemmas.{fault_is_least}
use Rattle.ags_certtext.proofs.laws.least_fault_is_told.Goals as goal

pub returns : goal.returns
returns c = fault_is_least
