use Rattle.std.proofs.Common.{ap, sym, ◌∙◌}
use Rattle.ags_device.specs.Devices.{kept_of}
use Rattle.ags_device.specs.Record.{last_of}
use Rattle.ags_device.proofs.ListLemmas.{get_mapped, some_there}
use Rattle.ags_device.proofs.boxes.last_at.Goals as goal

pub returns-clause-last : goal.returns-clause-last
returns-clause-last g c = c.last.ensures
    ∙ ap (λ o. last_of (kept_of o)) (sym (get_mapped _ c.args.devices.now.items c.args.position _ c.requires c.index.ensures))

pub returns-clause-some : goal.returns-clause-some
returns-clause-some g c = some_there _ _ (get_mapped _ c.args.devices.now.items c.args.position _ c.requires c.index.ensures)
