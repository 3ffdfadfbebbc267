use Rattle.ags_benchscript.proofs.VerbLemmas.{verb_read}
use Rattle.ags_benchscript.proofs.verbs.verb_named.Goals as goal

pub returns : goal.returns
returns c = verb_read c.args.text.now c.verb_of.result c.verb_of.ensures.found c.verb_of.ensures.only
