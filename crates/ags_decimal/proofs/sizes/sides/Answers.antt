use Rattle.std.proofs.Math.Nat.{one-le-pow}
use Rattle.ags_decimal.proofs.sizes.sides.Goals as goal

pub returns-then-power-lt0-clause-some : goal.returns-then-power-lt0-clause-some
returns-then-power-lt0-clause-some c = rw (c.pow-size.ensures) (one-le-pow _ c.args.base c.requires.some)

pub returns-then-power-lt0-clause-most_above : goal.returns-then-power-lt0-clause-most_above
returns-then-power-lt0-clause-most_above c = one-le-pow _ c.args.base c.requires.some

pub returns-else-power-lt0-clause-most_below : goal.returns-else-power-lt0-clause-most_below
returns-else-power-lt0-clause-most_below c = one-le-pow _ c.args.base c.requires.some
