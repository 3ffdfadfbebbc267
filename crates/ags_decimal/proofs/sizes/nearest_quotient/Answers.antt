use Rattle.std.proofs.Common.{rules}
use Rattle.ags_decimal.proofs.sizes.nearest_quotient.Goals as goal

pub returns : goal.returns
returns c = search rules
