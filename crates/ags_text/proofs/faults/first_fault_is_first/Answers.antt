use Rattle.std.proofs.Common.{[]}
use Rattle.ags_text.proofs.FaultLemmas.{found}
use Rattle.ags_text.proofs.faults.first_fault_is_first.Goals as goal

pub returns : goal.returns
returns g c = λ fault xs f is. found fault [] xs f is
