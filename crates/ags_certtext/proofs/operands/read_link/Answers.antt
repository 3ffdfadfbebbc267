use Rattle.std.proofs.Common.{rules}
use Rattle.ags_certtext.proofs.operands.read_link.Goals as goal

pub returns-then-are_blanks-clause-found : goal.returns-then-are_blanks-clause-found
returns-then-are_blanks-clause-found c = search rules

pub returns-then-are_blanks-clause-only : goal.returns-then-are_blanks-clause-only
returns-then-are_blanks-clause-only c = search rules

pub returns-else-are_blanks-clause-only : goal.returns-else-are_blanks-clause-only
returns-else-are_blanks-clause-only c = search rules
