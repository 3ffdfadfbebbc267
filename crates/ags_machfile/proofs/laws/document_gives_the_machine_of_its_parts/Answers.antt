use Rattle.ags_machfile.proofs.PartLemmas.{machine_in-gives, gives-machine_in, machine_in-fault}
use Rattle.ags_machfile.proofs.laws.document_gives_the_machine_of_its_parts.Goals as goal

pub returns-clause-machine : goal.returns-clause-machine
returns-clause-machine c = λ document machine. (machine_in-gives document machine, gives-machine_in document machine)

pub returns-clause-fault : goal.returns-clause-fault
returns-clause-fault c = machine_in-fault
