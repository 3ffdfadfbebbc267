use Rattle.std.proofs.Common.{rules}
use Rattle.ags_isa.specs.Naming.{order_word}
use Rattle.ags_isa.proofs.decoding.encode.Goals as goal

pub returns : goal.returns
unfolding order_word
returns c = search rules
