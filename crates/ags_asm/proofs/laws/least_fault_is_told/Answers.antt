use Rattle.ags_asm.proofs.LeastLemmas.{told_least, least_told, defined_faultless}
use Rattle.ags_asm.proofs.laws.least_fault_is_told.Goals as goal

pub returns : goal.returns
returns c = record { told = told_least; least = least_told; none = defined_faultless }
