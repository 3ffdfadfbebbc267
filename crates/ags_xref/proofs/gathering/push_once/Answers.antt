use Rattle.std.proofs.Common.{rules}
use Rattle.ags_xref.proofs.gathering.push_once.Goals as goal

pub returns : goal.returns
returns c = search rules
