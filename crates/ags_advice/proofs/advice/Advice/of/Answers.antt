use Rattle.std.proofs.Common.{rules}
use Rattle.ags_advice.proofs.advice.Advice.of.Goals as goal

pub returns-then-is_silent : goal.returns-then-is_silent
returns-then-is_silent c = search rules
