use Rattle.ags_machfile.proofs.PortRuleLemmas.{ports_behind-ok, ports_behind-err, ok-ports_behind, err-ports_behind}
use Rattle.ags_machfile.proofs.laws.array_gives_each_entry_its_register.Goals as goal

pub returns-clause-ports : goal.returns-clause-ports
returns-clause-ports c = λ direction entries ports. (ports_behind-ok direction entries ports, ok-ports_behind direction entries ports)

pub returns-clause-fault : goal.returns-clause-fault
returns-clause-fault c = λ direction entries fault. (ports_behind-err direction entries fault, err-ports_behind direction entries fault)
