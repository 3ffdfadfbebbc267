use Rattle.std.proofs.Common.{ap, sym, ◌∙◌}
use Rattle.ags_device.specs.Devices.{hears_of}
use Rattle.ags_device.proofs.ListLemmas.{get_mapped, some_there}
use Rattle.ags_device.proofs.boxes.hears_at.Goals as goal

pub returns-clause-hears : goal.returns-clause-hears
returns-clause-hears g c = c.hears.ensures ∙ ap (λ o. hears_of o) (sym (get_mapped _ c.args.devices.now.items c.args.position _ c.requires c.index.ensures))

pub returns-clause-some : goal.returns-clause-some
returns-clause-some g c = some_there _ _ (get_mapped _ c.args.devices.now.items c.args.position _ c.requires c.index.ensures)
