use Rattle.std.proofs.Common.{rules}
use Rattle.ags_places.proofs.placing.move_before.Goals as goal

pub returns-clause-effect : goal.returns-clause-effect
returns-clause-effect c = search rules
