use Rattle.std.proofs.Common.{rules}
use Rattle.ags_domain.proofs.sums.sum_at.Goals as goal

pub returns : goal.returns
returns c = search rules
