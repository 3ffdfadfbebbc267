use Rattle.ags_top.proofs.judging.judge_pair.Goals as goal

pub write_judged-requires-clause-source : goal.write_judged-requires-clause-source
write_judged-requires-clause-source g c = c.requires.source

pub write_judged-requires-clause-verdict : goal.write_judged-requires-clause-verdict
write_judged-requires-clause-verdict g c = c.verdict_of_pair.ensures

pub returns-in-ListingBefore-clause-says : goal.returns-in-ListingBefore-clause-says
returns-in-ListingBefore-clause-says g c = rw c.in-ListingBefore.is c.write_judged.ensures.says

pub returns-in-ListingBefore-clause-faults : goal.returns-in-ListingBefore-clause-faults
returns-in-ListingBefore-clause-faults g c = c.write_judged.ensures.faults

pub guard_script-requires-clause-source : goal.guard_script-requires-clause-source
guard_script-requires-clause-source g c = c.requires.source

pub guard_script-requires-clause-verdict : goal.guard_script-requires-clause-verdict
guard_script-requires-clause-verdict g c = c.verdict_of_pair-in-PlayBehind.ensures

pub guard_script-requires-clause-script : goal.guard_script-requires-clause-script
guard_script-requires-clause-script g c = rw c.in-PlayBehind.is at c.requires.sequel

pub returns-in-PlayBehind-clause-says : goal.returns-in-PlayBehind-clause-says
returns-in-PlayBehind-clause-says g c = rw c.in-PlayBehind.is c.guard_script.ensures.says

pub returns-in-PlayBehind-clause-faults : goal.returns-in-PlayBehind-clause-faults
returns-in-PlayBehind-clause-faults g c = c.guard_script.ensures.faults

pub write_counts-requires-clause-source : goal.write_counts-requires-clause-source
write_counts-requires-clause-source g c = c.requires.source

pub write_counts-requires-clause-verdict : goal.write_counts-requires-clause-verdict
write_counts-requires-clause-verdict g c = c.verdict_of_pair-in-CountsInstead.ensures

pub returns-in-CountsInstead-clause-says : goal.returns-in-CountsInstead-clause-says
returns-in-CountsInstead-clause-says g c = rw c.in-CountsInstead.is c.write_counts.ensures.says

pub returns-in-CountsInstead-clause-faults : goal.returns-in-CountsInstead-clause-faults
returns-in-CountsInstead-clause-faults g c = c.write_counts.ensures.faults

pub judge_budget-requires-clause-source : goal.judge_budget-requires-clause-source
judge_budget-requires-clause-source g c = c.requires.source

pub judge_budget-requires-clause-verdict : goal.judge_budget-requires-clause-verdict
judge_budget-requires-clause-verdict g c = c.verdict_of_pair-in-BudgetBehind.ensures

pub judge_budget-requires-clause-rows : goal.judge_budget-requires-clause-rows
judge_budget-requires-clause-rows g c = rw c.in-BudgetBehind.is at c.requires.sequel

pub returns-in-BudgetBehind-clause-says : goal.returns-in-BudgetBehind-clause-says
returns-in-BudgetBehind-clause-says g c = rw c.in-BudgetBehind.is c.judge_budget.ensures.says

pub returns-in-BudgetBehind-clause-faults : goal.returns-in-BudgetBehind-clause-faults
returns-in-BudgetBehind-clause-faults g c = c.judge_budget.ensures.faults

pub judge_scales-requires-clause-source : goal.judge_scales-requires-clause-source
judge_scales-requires-clause-source g c = c.requires.source

pub judge_scales-requires-clause-verdict : goal.judge_scales-requires-clause-verdict
judge_scales-requires-clause-verdict g c = c.verdict_of_pair-in-ScalesBehind.ensures

pub judge_scales-requires-clause-rows : goal.judge_scales-requires-clause-rows
judge_scales-requires-clause-rows g c = rw c.in-ScalesBehind.is at c.requires.sequel

pub returns-in-ScalesBehind-clause-says : goal.returns-in-ScalesBehind-clause-says
returns-in-ScalesBehind-clause-says g c = rw c.in-ScalesBehind.is c.judge_scales.ensures.says

pub returns-in-ScalesBehind-clause-faults : goal.returns-in-ScalesBehind-clause-faults
returns-in-ScalesBehind-clause-faults g c = c.judge_scales.ensures.faults

pub tell_edits-requires-clause-source : goal.tell_edits-requires-clause-source
tell_edits-requires-clause-source g c = c.requires.source

pub tell_edits-requires-clause-lawful : goal.tell_edits-requires-clause-lawful
tell_edits-requires-clause-lawful g c = rw c.in-EditsBehind.is at c.requires.sequel

pub returns-in-EditsBehind-clause-says : goal.returns-in-EditsBehind-clause-says
returns-in-EditsBehind-clause-says g c = rw c.in-EditsBehind.is c.tell_edits.ensures.says

pub returns-in-EditsBehind-clause-faults : goal.returns-in-EditsBehind-clause-faults
returns-in-EditsBehind-clause-faults g c = c.tell_edits.ensures.faults
