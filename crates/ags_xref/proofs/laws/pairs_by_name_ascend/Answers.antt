use Rattle.ags_xref.proofs.OrderLemmas.{by_name_permutes, by_name_ascends}
use Rattle.ags_xref.proofs.laws.pairs_by_name_ascend.Goals as goal

pub returns : goal.returns
returns c = record { same = by_name_permutes; ascend = by_name_ascends }
