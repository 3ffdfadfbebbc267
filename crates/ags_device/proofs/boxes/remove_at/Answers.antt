use Rattle.ags_device.proofs.ListLemmas.{map_removed_to}
use Rattle.ags_device.proofs.boxes.remove_at.Goals as goal

pub returns : goal.returns
returns g c = map_removed_to _ c.args.devices.now.items _ c.args.position c.remove.ensures.items
