use Rattle.ags_script.proofs.NameLemmas.{key_read}
use Rattle.ags_script.proofs.keys.key_named.Goals as goal

pub returns : goal.returns
returns c = key_read c.args.text.now c.key_of.result c.key_of.ensures.found c.key_of.ensures.only
