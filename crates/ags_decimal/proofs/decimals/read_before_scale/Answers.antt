use Rattle.std.proofs.Common.{rules}
use Rattle.ags_decimal.specs.Reading.{reading_before_scale}
use Rattle.ags_decimal.proofs.decimals.read_before_scale.Goals as goal

pub returns : goal.returns
unfolding reading_before_scale
returns c = search rules
