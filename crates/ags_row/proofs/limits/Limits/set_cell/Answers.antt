use Rattle.ags_row.proofs.LimitLemmas.{view_of, cell_set}
use Rattle.ags_row.proofs.limits.Limits.set_cell.Goals as goal

pub returns : goal.returns
returns g c = let i = c.self.inside in
    rw (← c.self.view_is) (cell_set (view_of i.cells.items i.inputs.items i.outputs.items i.places.items i.every) c.self.invariant.tables c.args.address c.args.value c.requires)
