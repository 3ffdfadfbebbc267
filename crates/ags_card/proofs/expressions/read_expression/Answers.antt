use Rattle.std.proofs.Common.{rules}
use Rattle.ags_card.specs.Reading.{expression_reading}
use Rattle.ags_card.proofs.expressions.read_expression.Goals as goal

pub returns : goal.returns
unfolding expression_reading
returns c = search rules
