use Rattle.ags_deda.proofs.DisplayLaws.{readout_unsent}
use Rattle.ags_deda.proofs.laws.readouts_send_their_address.Goals as goal

pub returns : goal.returns
returns c = readout_unsent
