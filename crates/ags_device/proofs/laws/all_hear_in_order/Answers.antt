use Rattle.ags_device.proofs.ListLemmas.{heard_by_all}
use Rattle.ags_device.proofs.laws.all_hear_in_order.Goals as goal

pub returns : goal.returns
returns c = heard_by_all
