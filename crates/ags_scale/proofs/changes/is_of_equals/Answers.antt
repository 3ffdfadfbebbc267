use Rattle.std.proofs.Common.{rules}
use Rattle.ags_scale.proofs.changes.is_of_equals.Goals as goal

pub returns-in-Any : goal.returns-in-Any
returns-in-Any c = search rules
