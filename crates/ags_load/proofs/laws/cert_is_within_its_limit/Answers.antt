use Rattle.ags_load.proofs.LengthLemmas.{cert_length}
use Rattle.ags_load.proofs.laws.cert_is_within_its_limit.Goals as goal

pub returns : goal.returns
returns c = cert_length
