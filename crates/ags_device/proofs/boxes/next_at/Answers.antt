use Rattle.std.proofs.Common.{ap, sym, ◌∙◌}
use Rattle.ags_device.specs.Devices.{plan_of}
use Rattle.ags_device.specs.Record.{first_of, given}
use Rattle.ags_device.proofs.ListLemmas.{map_set_at, get_mapped}
use Rattle.ags_device.proofs.boxes.next_at.Goals as goal

pub returns-clause-rest : goal.returns-clause-rest
returns-clause-rest g c = map_set_at _ given c.args.devices.now.items c.args.position _ _ c.requires c.index_mut.ensures.value c.next.ensures.rest

pub returns-clause-word : goal.returns-clause-word
returns-clause-word g c = c.next.ensures.word ∙ ap (λ o. first_of (plan_of o)) (sym (get_mapped _ c.args.devices.now.items c.args.position _ c.requires c.index_mut.ensures.value))
