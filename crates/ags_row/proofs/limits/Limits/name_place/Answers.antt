use Rattle.ags_row.proofs.LimitLemmas.{view_of, place_named}
use Rattle.ags_row.proofs.limits.Limits.name_place.Goals as goal

pub returns : goal.returns
returns g c = let i = c.self.inside in
    rw (← c.self.view_is) (place_named (view_of i.cells.items i.inputs.items i.outputs.items i.places.items i.every) c.self.invariant.tables c.args.location c.requires)
