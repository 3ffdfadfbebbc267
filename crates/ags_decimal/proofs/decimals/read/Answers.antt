use Rattle.std.proofs.Common.{rules}
use Rattle.ags_decimal.specs.Reading.{reading}
use Rattle.ags_decimal.proofs.decimals.read.Goals as goal

pub returns : goal.returns
unfolding reading
returns c = search rules
