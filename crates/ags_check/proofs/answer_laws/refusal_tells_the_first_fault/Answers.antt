use Rattle.ags_check.proofs.FirstFaultLemmas.{fault_of_refusal, refusal_of_first}
use Rattle.ags_check.proofs.answer_laws.refusal_tells_the_first_fault.Goals as goal

pub returns-clause-fault : goal.returns-clause-fault
returns-clause-fault c = fault_of_refusal

pub returns-clause-told : goal.returns-clause-told
returns-clause-told c = refusal_of_first
