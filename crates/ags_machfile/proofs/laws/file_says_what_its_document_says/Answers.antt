use Rattle.ags_machfile.proofs.MachineFileLemmas.{machine_of-document, machine_of-none}
use Rattle.ags_machfile.proofs.laws.file_says_what_its_document_says.Goals as goal

pub returns-clause-document : goal.returns-clause-document
returns-clause-document c = machine_of-document

pub returns-clause-none : goal.returns-clause-none
returns-clause-none c = machine_of-none
