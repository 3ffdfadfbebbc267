use Rattle.std.proofs.Common.{rules}
use Rattle.ags_places.proofs.placing.read_operand.Goals as goal

pub returns-clause-value : goal.returns-clause-value
returns-clause-value c = search rules
