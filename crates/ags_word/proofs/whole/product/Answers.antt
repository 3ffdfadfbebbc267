use Rattle.std.proofs.Common.{◌≤◌, ◌^◌, ◌*ℤ◌, FitsSigned, arith}
use Rattle.std.specs.Int.{w128}
use Rattle.std.specs.Prelude.{unsigned_abs}
use Rattle.std.proofs.lemmas.Int.{ints, to_z-of_z, fits_signed_mul}
use Rattle.ags_word.proofs.whole.product.Goals as goal

fit : (c : goal.Start) → FitsSigned w128 (c.args.n *ℤ c.args.factor)
fit c =
    let n = c.args.n in
    let factor = c.args.factor in
    let small : unsigned_abs n ≤ 2 ^ 34 = omega (arith, ints) in
    let few : unsigned_abs factor ≤ 2 ^ 64 = omega (arith, ints) in
    fits_signed_mul w128 n factor (2 ^ 34) (2 ^ 64) small few (omega arith)

pub overflow_mul-result : goal.overflow_mul-result
overflow_mul-result c = rw (to_z-of_z w128 c.args.n c.ranges.n, to_z-of_z w128 c.args.factor c.ranges.factor) (fit c)

pub returns : goal.returns
returns c =
    let n = c.args.n in
    let factor = c.args.factor in
    rw (to_z-of_z w128 n c.ranges.n, to_z-of_z w128 factor c.ranges.factor) (to_z-of_z w128 (n *ℤ factor) (fit c))
