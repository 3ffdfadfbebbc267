use Rattle.ags_certread.proofs.SuitLemmas.{suits}
use Rattle.ags_certread.proofs.laws.read_certificates_suit.Goals as goal

pub returns : goal.returns
returns c = suits
