use Rattle.std.proofs.Common.{rules}
use Rattle.ags_check.proofs.starts.cell_holds_start.Goals as goal

pub returns : goal.returns
returns c = search rules
