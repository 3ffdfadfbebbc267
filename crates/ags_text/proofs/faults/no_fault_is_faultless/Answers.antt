use Rattle.std.proofs.Common.{[]}
use Rattle.ags_text.proofs.FaultLemmas.{faultless}
use Rattle.ags_text.proofs.faults.no_fault_is_faultless.Goals as goal

pub returns : goal.returns
returns g c = λ fault xs none. faultless fault [] xs none
