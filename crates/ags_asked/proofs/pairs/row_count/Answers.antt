use Rattle.std.proofs.Common.{rules}
use Rattle.ags_asked.proofs.pairs.row_count.Goals as goal

pub returns-clause-count : goal.returns-clause-count
returns-clause-count c = search rules
