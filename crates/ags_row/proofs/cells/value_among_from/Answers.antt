use Rattle.ags_row.proofs.CellLemmas.{read_found}
use Rattle.ags_row.proofs.cells.value_among_from.Goals as goal

pub returns-then-cell-address : goal.returns-then-cell-address
returns-then-cell-address g c = read_found c.args.cells.now c.requires c.args.address c.args.likely c.index-cells-likely.result
    c.if-likely-cells.true c.index-cells-likely.is c.if-cell-address.true
