use Rattle.ags_machfile.proofs.FileLemmas.{empty_document, empty_file}
use Rattle.ags_machfile.proofs.laws.empty_file_gives_the_standard_machine.Goals as goal

pub returns-clause-document : goal.returns-clause-document
returns-clause-document c = empty_document

pub returns-clause-bytes : goal.returns-clause-bytes
returns-clause-bytes c = empty_file
