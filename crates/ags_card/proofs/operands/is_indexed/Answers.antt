use Rattle.std.proofs.Common.{rules}
use Rattle.ags_card.specs.Reading.{is_indexed}
use Rattle.ags_card.proofs.operands.is_indexed.Goals as goal

pub returns-in-44 : goal.returns-in-44
unfolding is_indexed
returns-in-44 c = search rules
