use Rattle.std.proofs.Common.{rules}
use Rattle.ags_scale.proofs.changes.tags_met.Goals as goal

pub returns-in_default : goal.returns-in_default
returns-in_default c = search rules
