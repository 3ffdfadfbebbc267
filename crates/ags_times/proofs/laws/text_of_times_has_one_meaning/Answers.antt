use Rattle.ags_times.proofs.MeaningLaws.{each_text_means, never_both, one_budget_of, one_fault_of}
use Rattle.ags_times.proofs.laws.text_of_times_has_one_meaning.Goals as goal

pub returns-clause-some : goal.returns-clause-some
returns-clause-some c = each_text_means

pub returns-clause-budget : goal.returns-clause-budget
returns-clause-budget c = one_budget_of

pub returns-clause-fault : goal.returns-clause-fault
returns-clause-fault c = one_fault_of

pub returns-clause-not_both : goal.returns-clause-not_both
returns-clause-not_both c = never_both
