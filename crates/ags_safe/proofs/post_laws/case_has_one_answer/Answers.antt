use Rattle.ags_safe.proofs.OneAnswerLemmas.{one_answer}
use Rattle.ags_safe.proofs.post_laws.case_has_one_answer.Goals as goal

pub returns : goal.returns
returns g c = one_answer g.D.Domain.meaning g.met.D.Domain.lawful
