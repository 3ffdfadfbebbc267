use Rattle.ags_safe.proofs.RunLemmas.{safe}
use Rattle.ags_safe.proofs.laws.accepted_certificates_are_safe.Goals as goal

pub returns : goal.returns
returns g c = safe g.D.Domain.meaning g.met.D.Domain.lawful
