use Rattle.ags_ports.proofs.PortLemmas.{position_of-some, position_of-none, position_of-register}
use Rattle.ags_ports.proofs.laws.registers_are_found_by_their_addresses.Goals as goal

pub returns-clause-found : goal.returns-clause-found
returns-clause-found c = position_of-some

pub returns-clause-absent : goal.returns-clause-absent
returns-clause-absent c = position_of-none

pub returns-clause-each : goal.returns-clause-each
returns-clause-each c = position_of-register
