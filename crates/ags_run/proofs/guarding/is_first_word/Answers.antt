use Rattle.std.proofs.Common.{rules}
use Rattle.ags_run.proofs.guarding.is_first_word.Goals as goal

pub returns-in-Some-stated : goal.returns-in-Some-stated
returns-in-Some-stated c = search rules
