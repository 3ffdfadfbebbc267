use Rattle.ags_verdict.proofs.VerdictLemmas.{verdict_one}
use Rattle.ags_verdict.proofs.laws.certificate_has_one_verdict.Goals as goal

pub returns : goal.returns
returns g c = λ machine image cert one other is. verdict_one g.D.Domain.meaning machine image cert g.met.D.Domain.lawful is one other
