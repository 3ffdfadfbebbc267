use Rattle.std.proofs.Common.{rules}
use Rattle.ags_scale.proofs.taking.holds_raw_tag.Goals as goal

pub returns-in-Known-Scale : goal.returns-in-Known-Scale
returns-in-Known-Scale c = search rules
