use Rattle.ags_ports.proofs.StateLemmas.{step_keeps}
use Rattle.ags_ports.proofs.laws.step_keeps_a_state.Goals as goal

pub returns : goal.returns
returns c = step_keeps
