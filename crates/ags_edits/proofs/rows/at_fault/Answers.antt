use Rattle.std.proofs.Common.{rules}
use Rattle.ags_edits.proofs.rows.at_fault.Goals as goal

pub returns-then-has_cell : goal.returns-then-has_cell
returns-then-has_cell c = search rules

pub returns : goal.returns
returns c = search rules
