use Rattle.ags_isa.proofs.OrderLemmas.{number_before}
use Rattle.ags_isa.proofs.laws.numbers_follow_names.Goals as goal

pub returns : goal.returns
returns c = number_before
