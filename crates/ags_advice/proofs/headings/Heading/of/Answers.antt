use Rattle.std.proofs.Common.{rules}
use Rattle.ags_advice.proofs.headings.Heading.of.Goals as goal

pub returns-in-AgsBench-Some-Script : goal.returns-in-AgsBench-Some-Script
returns-in-AgsBench-Some-Script c = search rules
