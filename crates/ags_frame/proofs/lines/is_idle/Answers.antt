use Rattle.std.proofs.Common.{rules}
use Rattle.ags_frame.proofs.lines.is_idle.Goals as goal

pub returns-in_default-clause-yes : goal.returns-in_default-clause-yes
returns-in_default-clause-yes c = search rules
