use Rattle.std.proofs.Common.{rules}
use Rattle.ags_drive.proofs.hearing.hear_gave.Goals as goal

pub returns-in-Some-clause-heard : goal.returns-in-Some-clause-heard
returns-in-Some-clause-heard c = search rules
