use Rattle.std.proofs.Common.{rules}
use Rattle.ags_frame.proofs.openings.version_digits.Goals as goal

pub returns-then-are_blanks-clause-found : goal.returns-then-are_blanks-clause-found
returns-then-are_blanks-clause-found c = search rules
