use Rattle.ags_certtext.proofs.ValueLemmas.{set_one}
use Rattle.ags_certtext.proofs.word_fields.set_front.Goals as goal

pub returns-clause-only : goal.returns-clause-only
returns-clause-only c = λ value rest is. set_one c.in_ok-set.set c.args.words.now c.args.behind.now value rest c.in_ok-set.ensures is
