use Rattle.ags_verdict.proofs.VerdictLemmas.{first_of}
use Rattle.ags_verdict.proofs.laws.refusal_tells_what_fails_first.Goals as goal

pub returns : goal.returns
returns g c = first_of g.D.Domain.meaning
