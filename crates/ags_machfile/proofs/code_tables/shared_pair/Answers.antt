use Rattle.ags_machfile.specs.OrderTable.{shared_pair}
use Rattle.ags_machfile.proofs.code_tables.shared_pair.Goals as goal

pub returns : goal.returns
unfolding shared_pair
returns c = c.first_pair.ensures
