use Rattle.ags_machfile.proofs.FileLemmas.{machine_of-IsMachine, machine_of-fault}
use Rattle.ags_machfile.proofs.laws.file_gives_a_machine_or_a_fault.Goals as goal

pub returns-clause-machine : goal.returns-clause-machine
returns-clause-machine c = machine_of-IsMachine

pub returns-clause-fault : goal.returns-clause-fault
returns-clause-fault c = machine_of-fault
