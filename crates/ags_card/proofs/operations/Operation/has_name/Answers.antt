use Rattle.std.proofs.Common.{rules}
use Rattle.ags_card.proofs.operations.Operation.has_name.Goals as goal

pub returns : goal.returns
returns c = search rules
