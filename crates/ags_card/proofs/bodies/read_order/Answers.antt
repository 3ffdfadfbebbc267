use Rattle.std.proofs.Common.{rules}
use Rattle.ags_card.proofs.bodies.read_order.Goals as goal

pub returns-then-is_bare-clause-read : goal.returns-then-is_bare-clause-read
returns-then-is_bare-clause-read c = search rules
