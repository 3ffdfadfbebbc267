use Rattle.std.proofs.Common.{rules}
use Rattle.ags_edits.proofs.rows.is_fixed.Goals as goal

pub returns : goal.returns
returns c = search rules
