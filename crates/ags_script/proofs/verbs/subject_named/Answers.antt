use Rattle.ags_script.proofs.NameLemmas.{subject_read}
use Rattle.ags_script.proofs.verbs.subject_named.Goals as goal

pub returns : goal.returns
returns c = subject_read c.args.text.now c.subject_of.result c.subject_of.ensures.found c.subject_of.ensures.only
