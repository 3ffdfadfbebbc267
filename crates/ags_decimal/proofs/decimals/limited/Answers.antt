use Rattle.std.proofs.Common.{rules}
use Rattle.ags_decimal.specs.Reading.{limited}
use Rattle.ags_decimal.proofs.decimals.limited.Goals as goal

pub returns-then-power-ltminus12 : goal.returns-then-power-ltminus12
unfolding limited
returns-then-power-ltminus12 c = search rules
