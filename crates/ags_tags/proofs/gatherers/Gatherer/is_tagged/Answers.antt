use Rattle.std.proofs.Common.{rules}
use Rattle.ags_tags.proofs.gatherers.Gatherer.is_tagged.Goals as goal

pub returns : goal.returns
returns c = search rules
