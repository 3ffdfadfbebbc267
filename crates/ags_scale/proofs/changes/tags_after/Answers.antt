use Rattle.std.proofs.Common.{rules}
use Rattle.ags_scale.proofs.changes.tags_after.Goals as goal

pub returns-in-Lls : goal.returns-in-Lls
returns-in-Lls c = search rules

pub returns-in-Mpy : goal.returns-in-Mpy
returns-in-Mpy c = search rules
