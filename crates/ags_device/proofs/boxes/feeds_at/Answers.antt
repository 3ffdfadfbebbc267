use Rattle.std.proofs.Common.{ap, sym, ◌∙◌}
use Rattle.ags_device.specs.Devices.{feeds_of}
use Rattle.ags_device.proofs.ListLemmas.{get_mapped, some_there}
use Rattle.ags_device.proofs.boxes.feeds_at.Goals as goal

pub returns-clause-feeds : goal.returns-clause-feeds
returns-clause-feeds g c = c.feeds.ensures ∙ ap (λ o. feeds_of o) (sym (get_mapped _ c.args.devices.now.items c.args.position _ c.requires c.index.ensures))

pub returns-clause-some : goal.returns-clause-some
returns-clause-some g c = some_there _ _ (get_mapped _ c.args.devices.now.items c.args.position _ c.requires c.index.ensures)
