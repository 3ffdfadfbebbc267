use Rattle.std.proofs.Common.{rules}
use Rattle.ags_row.proofs.rows.Row.of.Goals as goal

pub made_of-requires : goal.made_of-requires
made_of-requires g c = search rules
