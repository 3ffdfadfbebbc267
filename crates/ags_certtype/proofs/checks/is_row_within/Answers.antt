use Rattle.ags_row.proofs.CellLemmas.{cells_below}
use Rattle.ags_certtype.proofs.checks.is_row_within.Goals as goal

pub are_cells_within-requires : goal.are_cells_within-requires
are_cells_within-requires c = rw c.at.ensures (cells_below 0 c.args.row.now.at c.args.row.now.ascending)
