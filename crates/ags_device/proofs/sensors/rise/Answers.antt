use Rattle.std.proofs.Common.{◌≤◌, ◌^◌, ℤ, pos, ◌*ℤ◌, refl, sym, subst, arith}
use Rattle.std.specs.Int.{w32, w64}
use Rattle.std.specs.Prelude.{unsigned_abs}
use Rattle.std.proofs.lemmas.Int.{ints, to_z-of_z, fits_signed_from_abs, unsigned_abs-mul}
use Rattle.std.proofs.lemmas.Nat.{mul-le}
use Rattle.ags_device.proofs.sensors.rise.Goals as goal

product_most : (n m : ℤ) → unsigned_abs n ≤ 2 ^ 32 → unsigned_abs m ≤ 2 ^ 17 → unsigned_abs (n *ℤ m) ≤ 2 ^ 49
product_most n m h k = subst (λ size. size ≤ 2 ^ 49) (sym (unsigned_abs-mul n m)) (omega (arith, mul-le (unsigned_abs n) (unsigned_abs m) (2 ^ 32) (2 ^ 17) h k))

step_most : (c : goal.After-from-2) → unsigned_abs c.args.step ≤ 2 ^ 17
step_most c =
    let least = c.requires.least in
    let most = c.requires.most in
    omega (arith, ints)

size_of_product : (c : goal.After-from-2) → unsigned_abs (pos c.args.position *ℤ c.args.step) ≤ 2 ^ 49
size_of_product c = product_most (pos c.args.position) c.args.step (omega (arith, c.ranges.position.fits)) (step_most c)

pub overflow_mul-result : goal.overflow_mul-result
overflow_mul-result c =
    let step = c.args.step in
    let small = step_most c in
    let most = size_of_product c in
    rw (
      c.from.ensures,
      c.from-2.ensures,
      to_z-of_z w32 step c.ranges.step,
      to_z-of_z w64 step (fits_signed_from_abs w64 step (omega arith)),
      to_z-of_z w64 (pos c.args.position) (fits_signed_from_abs w64 _ (omega (arith, c.ranges.position.fits))),
    ) (fits_signed_from_abs w64 _ (omega arith))

pub returns-clause-same : goal.returns-clause-same
returns-clause-same c =
    let step = c.args.step in
    let small = step_most c in
    let most = size_of_product c in
    rw (
      c.from.ensures,
      c.from-2.ensures,
      to_z-of_z w32 step c.ranges.step,
      to_z-of_z w64 step (fits_signed_from_abs w64 step (omega arith)),
      to_z-of_z w64 (pos c.args.position) (fits_signed_from_abs w64 _ (omega (arith, c.ranges.position.fits))),
      to_z-of_z w64 (pos c.args.position *ℤ step) (fits_signed_from_abs w64 _ (omega arith)),
    ) refl

pub returns-clause-least : goal.returns-clause-least
returns-clause-least c =
    let most = size_of_product c in
    rw (returns-clause-same c) (omega (arith, ints))

pub returns-clause-most : goal.returns-clause-most
returns-clause-most c =
    let most = size_of_product c in
    rw (returns-clause-same c) (omega (arith, ints))
