use Rattle.std.proofs.Common.{rules}
use Rattle.ags_steps.proofs.Steps.tick.Goals as goal

pub returns : goal.returns
returns g c = search rules
