-- How a verdict tells a fault.
use Rattle.ags_safe.specs.Failing.{Fault, InitRange, StartUncovered, CodeUnknown, Stopped, NotCovered}
use Rattle.ags_verdict.specs.Fault.{refusal_of_stop}
use Rattle.ags_verdict.specs.declared.verdicts.Refusal.{Refusal}
use Rattle.ags_verdict.specs.declared.verdicts.Refusal.TheVariants as refusal

-- the refusal that tells a fault, by the same row, word and reason
abbrev pub refusal_of_fault : {D : Type 0} → Fault D → Refusal D
refusal_of_fault (InitRange address word) = refusal.InitRange address word
refusal_of_fault StartUncovered = refusal.StartUncovered
refusal_of_fault (CodeUnknown row) = refusal.CodeUnknown row
refusal_of_fault (Stopped row word stop) = refusal_of_stop row word stop
refusal_of_fault (NotCovered row word index indicator next) = refusal.NotCovered row word index indicator next
