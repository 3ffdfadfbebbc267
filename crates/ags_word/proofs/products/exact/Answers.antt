use Rattle.std.proofs.Common.{◌≡◌, ◌≤◌, ◌^◌, ℕ, ℤ, ◌*ℤ◌, FitsSigned, refl, sym, subst, arith}
use Rattle.std.specs.Int.{w32, w128}
use Rattle.std.specs.Prelude.{unsigned_abs}
use Rattle.std.proofs.lemmas.Int.{ints, to_z-of_z, fits_signed_from_abs, unsigned_abs-mul}
use Rattle.std.proofs.lemmas.Nat.{mul-le}
use Rattle.ags_word.specs.Word.{val}
use Rattle.ags_word.proofs.products.exact.Goals as goal

size_of_a : (c : goal.After-product) → unsigned_abs (val c.args.a) ≤ 2 ^ 17
size_of_a c =
    let least = c.value.ensures.least in
    let most = c.value.ensures.most in
    subst (λ (n : ℤ). unsigned_abs n ≤ 2 ^ 17) c.value.ensures.same (omega (arith, ints))

size_of_m : (c : goal.After-product) → unsigned_abs (val c.args.m) ≤ 2 ^ 17
size_of_m c =
    let least = c.value-2.ensures.least in
    let most = c.value-2.ensures.most in
    subst (λ (n : ℤ). unsigned_abs n ≤ 2 ^ 17) c.value-2.ensures.same (omega (arith, ints))

fits_32 : (n : ℤ) → unsigned_abs n ≤ 2 ^ 17 → FitsSigned w32 n
fits_32 n most = fits_signed_from_abs w32 n (omega arith)

fits_128 : (n : ℤ) → unsigned_abs n ≤ 2 ^ 34 → FitsSigned w128 n
fits_128 n most = fits_signed_from_abs w128 n (omega arith)

product_most : (n m : ℤ) → unsigned_abs n ≤ 2 ^ 17 → unsigned_abs m ≤ 2 ^ 17 → unsigned_abs (n *ℤ m) ≤ 2 ^ 34
product_most n m h k = subst (λ (size : ℕ). size ≤ 2 ^ 34) (sym (unsigned_abs-mul n m)) (omega (arith, mul-le (unsigned_abs n) (unsigned_abs m) (2 ^ 17) (2 ^ 17) h k))

size_of_product : (c : goal.After-product) → unsigned_abs (val c.args.a *ℤ val c.args.m) ≤ 2 ^ 34
size_of_product c = product_most (val c.args.a) (val c.args.m) (size_of_a c) (size_of_m c)

-- what is answered is the product of the two values
is_product : (c : goal.After-product) → c.product.result ≡ val c.args.a *ℤ val c.args.m
is_product c =
    let a = val c.args.a in
    let m = val c.args.m in
    let a_most = size_of_a c in
    let m_most = size_of_m c in
    rw (
      c.product.ensures,
      c.from.ensures,
      c.from-2.ensures,
      c.value.ensures.same,
      c.value-2.ensures.same,
      to_z-of_z w32 a (fits_32 a a_most),
      to_z-of_z w32 m (fits_32 m m_most),
      to_z-of_z w128 a (fits_128 a (omega arith)),
      to_z-of_z w128 m (fits_128 m (omega arith)),
    ) refl

pub returns-clause-least : goal.returns-clause-least
returns-clause-least c =
    let most = size_of_product c in
    rw (is_product c, to_z-of_z w128 (val c.args.a *ℤ val c.args.m) (fits_128 _ most)) (omega (arith, ints))

pub returns-clause-most : goal.returns-clause-most
returns-clause-most c =
    let most = size_of_product c in
    rw (is_product c, to_z-of_z w128 (val c.args.a *ℤ val c.args.m) (fits_128 _ most)) (omega (arith, ints))
