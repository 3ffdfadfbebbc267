use Rattle.std.proofs.Common.{rules}
use Rattle.ags_tags.proofs.numbers.read_scale.Goals as goal

pub returns-in_err-number-clause-only : goal.returns-in_err-number-clause-only
returns-in_err-number-clause-only c = λ scale is. rw c.from_residual.ensures (c.in_err-number.ensures.only scale is.is)

pub returns-then-is_scale-clause-only : goal.returns-then-is_scale-clause-only
returns-then-is_scale-clause-only c = search rules

pub returns-else-is_scale-clause-only : goal.returns-else-is_scale-clause-only
returns-else-is_scale-clause-only c = search rules
