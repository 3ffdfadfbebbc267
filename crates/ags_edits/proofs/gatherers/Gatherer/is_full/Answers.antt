use Rattle.std.proofs.Common.{rules}
use Rattle.ags_edits.proofs.gatherers.Gatherer.is_full.Goals as goal

pub returns : goal.returns
returns c = search rules
