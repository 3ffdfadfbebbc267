use Rattle.std.proofs.Common.{arith}
use Rattle.std.proofs.lemmas.Grind.{common_steps}
use Rattle.ags_verdict.proofs.texts.VerdictValueDisplay.fmt.Goals as goal

pub returns-in-Certified-clause-writes : goal.returns-in-Certified-clause-writes
returns-in-Certified-clause-writes g c = grind (arith, common_steps)
