use Rattle.std.proofs.Common.{rules}
use Rattle.ags_tags.proofs.gatherers.Gatherer.put.Goals as goal

pub returns-in-In : goal.returns-in-In
returns-in-In c = search rules
