use Rattle.std.proofs.Common.{rules}
use Rattle.ags_frame.proofs.openings.opening_of.Goals as goal

pub returns-else-begins_with_zero : goal.returns-else-begins_with_zero
returns-else-begins_with_zero c = search rules

pub returns-then-begins_with_zero : goal.returns-then-begins_with_zero
returns-then-begins_with_zero c = search rules
