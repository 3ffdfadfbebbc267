use Rattle.ags_ports.proofs.HaltLemmas.{dly_leads_to_waiting}
use Rattle.ags_ports.proofs.laws.dly_leaves_the_machine_waiting.Goals as goal

pub returns : goal.returns
returns c = dly_leads_to_waiting
