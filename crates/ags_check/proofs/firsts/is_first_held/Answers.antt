use Rattle.std.proofs.Common.{rules}
use Rattle.ags_check.proofs.firsts.is_first_held.Goals as goal

pub returns-in-None-stated : goal.returns-in-None-stated
returns-in-None-stated c = search rules
