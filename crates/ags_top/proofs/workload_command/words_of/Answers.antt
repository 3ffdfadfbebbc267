use Rattle.std.proofs.Common.{sym}
use Rattle.ags_top.proofs.WorkloadLemmas.{defined_count}
use Rattle.ags_top.proofs.workload_command.words_of.Goals as goal

pub returns-in-Some : goal.returns-in-Some
returns-in-Some c = λ image. rw c.in-Some.is (sym (defined_count image c.in-Some.field-0 c.args.card.now.count))
