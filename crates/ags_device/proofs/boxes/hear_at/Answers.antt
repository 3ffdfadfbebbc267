use Rattle.std.proofs.lemmas.Result.{on_ok_weaker, on_err_weaker}
use Rattle.ags_device.specs.Devices.{hearing}
use Rattle.ags_device.proofs.ListLemmas.{map_set_at, map_set_same}
use Rattle.ags_device.proofs.boxes.hear_at.Goals as goal

pub returns-clause-heard : goal.returns-clause-heard
returns-clause-heard g c = on_ok_weaker c.hear.result (map_set_at _ (hearing c.args.address c.args.word) c.args.devices.now.items c.args.position _ _ c.requires c.index_mut.ensures.value) c.hear.ensures.heard

pub returns-clause-same : goal.returns-clause-same
returns-clause-same g c = on_err_weaker c.hear.result (map_set_same _ c.args.devices.now.items c.args.position _ _ c.requires c.index_mut.ensures.value) c.hear.ensures.same
