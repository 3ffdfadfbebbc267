use Rattle.std.proofs.Common.{rules}
use Rattle.ags_xref.proofs.gathering.operand_terms.Goals as goal

pub returns-in-Comment : goal.returns-in-Comment
returns-in-Comment c = search rules
