use Rattle.std.proofs.Common.{rules}
use Rattle.ags_certsend.proofs.writing.first_line.Goals as goal

pub returns : goal.returns
returns c = search rules
