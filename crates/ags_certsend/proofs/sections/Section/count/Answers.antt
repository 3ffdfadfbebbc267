use Rattle.std.proofs.Common.{rules}
use Rattle.ags_certsend.proofs.sections.Section.count.Goals as goal

pub returns-in-Cells-clause-count : goal.returns-in-Cells-clause-count
returns-in-Cells-clause-count c = search rules
