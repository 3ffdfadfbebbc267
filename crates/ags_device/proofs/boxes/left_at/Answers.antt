use Rattle.std.proofs.Common.{ap, sym, ◌∙◌, length}
use Rattle.ags_device.specs.Devices.{plan_of}
use Rattle.ags_device.proofs.ListLemmas.{get_mapped, some_there}
use Rattle.ags_device.proofs.boxes.left_at.Goals as goal

pub returns-clause-left : goal.returns-clause-left
returns-clause-left g c = c.left.ensures
    ∙ ap (λ o. length (plan_of o)) (sym (get_mapped _ c.args.devices.now.items c.args.position _ c.requires c.index.ensures))

pub returns-clause-some : goal.returns-clause-some
returns-clause-some g c = some_there _ _ (get_mapped _ c.args.devices.now.items c.args.position _ c.requires c.index.ensures)
