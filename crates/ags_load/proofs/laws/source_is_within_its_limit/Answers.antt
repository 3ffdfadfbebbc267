use Rattle.ags_load.proofs.LengthLemmas.{source_length}
use Rattle.ags_load.proofs.laws.source_is_within_its_limit.Goals as goal

pub returns : goal.returns
returns c = source_length
