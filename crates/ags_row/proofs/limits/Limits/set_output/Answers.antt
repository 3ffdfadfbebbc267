use Rattle.ags_row.proofs.LimitLemmas.{view_of, output_set}
use Rattle.ags_row.proofs.limits.Limits.set_output.Goals as goal

pub returns : goal.returns
returns g c = let i = c.self.inside in
    rw (← c.self.view_is) (output_set (view_of i.cells.items i.inputs.items i.outputs.items i.places.items i.every) c.self.invariant.tables c.args.address c.args.value c.requires)
