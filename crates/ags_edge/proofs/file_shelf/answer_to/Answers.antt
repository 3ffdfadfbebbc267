use Rattle.std.proofs.Common.{rules}
use Rattle.ags_edge.proofs.file_shelf.answer_to.Goals as goal

pub returns-in-NotFound-clause-failed : goal.returns-in-NotFound-clause-failed
returns-in-NotFound-clause-failed c = search rules
