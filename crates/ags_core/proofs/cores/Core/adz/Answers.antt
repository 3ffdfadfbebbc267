use Rattle.std.proofs.Common.{rules}
use Rattle.ags_core.proofs.cores.Core.adz.Goals as goal

pub returns : goal.returns
returns c = search rules
