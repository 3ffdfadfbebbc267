use Rattle.std.proofs.Common.{rules}
use Rattle.ags_asm.proofs.closing.closing_sum.Goals as goal

pub returns : goal.returns
returns c = search rules
