use Rattle.std.proofs.Common.{rules}
use Rattle.ags_advice.proofs.reasons.why_unread.Goals as goal

pub returns-in-Some-IsADirectory : goal.returns-in-Some-IsADirectory
returns-in-Some-IsADirectory c = search rules
