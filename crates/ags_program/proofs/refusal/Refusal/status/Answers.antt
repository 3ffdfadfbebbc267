use Rattle.std.proofs.Common.{ap, sym}
use Rattle.ags_program.specs.Views.{status_of}
use Rattle.ags_program.proofs.refusal.Refusal.status.Goals as goal

pub returns-in-Script : goal.returns-in-Script
returns-in-Script c = ap status_of (sym c.in-Script.is)
