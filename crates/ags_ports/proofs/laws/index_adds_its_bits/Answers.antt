use Rattle.ags_ports.proofs.AddressLemmas.{effective_bits, effective_clear, effective_uncounted}
use Rattle.ags_ports.proofs.StateLemmas.{effective_below}
use Rattle.ags_ports.proofs.laws.index_adds_its_bits.Goals as goal

pub returns-clause-bits : goal.returns-clause-bits
returns-clause-bits c = effective_bits

pub returns-clause-clear : goal.returns-clause-clear
returns-clause-clear c = effective_clear

pub returns-clause-uncounted : goal.returns-clause-uncounted
returns-clause-uncounted c = effective_uncounted

pub returns-clause-below : goal.returns-clause-below
returns-clause-below c = effective_below
