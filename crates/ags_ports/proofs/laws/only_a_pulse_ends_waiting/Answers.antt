use Rattle.ags_ports.proofs.PhaseLemmas.{waits, wakes}
use Rattle.ags_ports.proofs.laws.only_a_pulse_ends_waiting.Goals as goal

pub returns-clause-waits : goal.returns-clause-waits
returns-clause-waits c = waits

pub returns-clause-wakes : goal.returns-clause-wakes
returns-clause-wakes c = wakes
