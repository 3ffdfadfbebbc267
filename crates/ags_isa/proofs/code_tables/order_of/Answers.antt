use Rattle.ags_isa.specs.Code.{order_of}
use Rattle.ags_isa.proofs.code_tables.order_of.Goals as goal

pub returns : goal.returns
unfolding order_of
returns c = c.first_of.ensures
