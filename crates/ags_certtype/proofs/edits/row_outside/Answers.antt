use Rattle.ags_row.proofs.CellLemmas.{cells_below}
use Rattle.ags_certtype.proofs.edits.row_outside.Goals as goal

pub first_outside-requires-clause-below : goal.first_outside-requires-clause-below
first_outside-requires-clause-below c = rw c.at.ensures (cells_below 0 c.args.row.now.at c.args.row.now.ascending)
