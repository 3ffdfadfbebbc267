use Rattle.std.proofs.Common.{rules}
use Rattle.ags_tags.proofs.numbers.is_scale.Goals as goal

pub returns-else-number-ge-LEAST_SCALE : goal.returns-else-number-ge-LEAST_SCALE
returns-else-number-ge-LEAST_SCALE c = search rules
