use Rattle.std.proofs.Common.{rules}
use Rattle.ags_scale.proofs.taking.takes_tag.Goals as goal

pub returns-in-Any-tag : goal.returns-in-Any-tag
returns-in-Any-tag c = search rules
