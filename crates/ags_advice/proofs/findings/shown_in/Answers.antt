use Rattle.std.proofs.Common.{rules}
use Rattle.ags_advice.proofs.findings.shown_in.Goals as goal

pub returns-in-Item : goal.returns-in-Item
returns-in-Item c = search rules
