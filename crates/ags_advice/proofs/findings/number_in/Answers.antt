use Rattle.std.proofs.Common.{rules}
use Rattle.ags_advice.proofs.findings.number_in.Goals as goal

pub returns-in-FaultOnLine : goal.returns-in-FaultOnLine
returns-in-FaultOnLine c = search rules
