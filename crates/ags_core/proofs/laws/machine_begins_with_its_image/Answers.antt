use Rattle.ags_core.proofs.StartLemmas.{start_word, start_is}
use Rattle.ags_core.proofs.laws.machine_begins_with_its_image.Goals as goal

pub returns-clause-words : goal.returns-clause-words
returns-clause-words c = start_word

pub returns-clause-state : goal.returns-clause-state
returns-clause-state c = start_is
