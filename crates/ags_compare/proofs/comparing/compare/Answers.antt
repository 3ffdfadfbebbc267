use Rattle.std.proofs.Common.{rules}
use Rattle.ags_compare.proofs.comparing.compare.Goals as goal

pub loop-location-preserved : goal.loop-location-preserved
loop-location-preserved c = search rules

pub loop-location-init : goal.loop-location-init
loop-location-init c = search rules

pub returns : goal.returns
returns c = search rules

pub returns-then-ne : goal.returns-then-ne
returns-then-ne c = search rules
