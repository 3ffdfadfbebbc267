use Rattle.ags_ports.proofs.HaltLemmas.{dly_waits, no_order_halts, halted_at_no_order}
use Rattle.ags_ports.proofs.laws.only_dly_waits_and_only_no_order_halts.Goals as goal

pub returns-clause-waits : goal.returns-clause-waits
returns-clause-waits c = dly_waits

pub returns-clause-halts : goal.returns-clause-halts
returns-clause-halts c = no_order_halts

pub returns-clause-alone : goal.returns-clause-alone
returns-clause-alone c = halted_at_no_order
