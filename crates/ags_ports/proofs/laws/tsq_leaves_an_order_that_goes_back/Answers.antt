use Rattle.ags_ports.proofs.NamingLemmas.{return_names}
use Rattle.ags_ports.proofs.laws.tsq_leaves_an_order_that_goes_back.Goals as goal

pub returns : goal.returns
returns c = return_names
