use Rattle.std.proofs.Common.{rules}
use Rattle.ags_statements.proofs.counts.read_count.Goals as goal

pub returns-clause-found : goal.returns-clause-found
returns-clause-found c = search rules
