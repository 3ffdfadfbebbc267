use Rattle.std.proofs.Common.{◌≡◌, pos, false, int_eq, refl, arith, rules}
use Rattle.std.specs.Int.{w32, w64, w128}
use Rattle.std.proofs.lemmas.Int.{ints, to_z-of_z, fits_signed_from_abs}
use Rattle.ags_word.specs.Long.{divided}
use Rattle.ags_word.specs.Word.{val}
use Rattle.ags_word.proofs.longs.Long.divide.Goals as goal

pub returns : goal.returns
unfolding divided
returns c =
    let some : int_eq (val c.args.m) (pos 0) ≡ false = rw (← c.value-divisor.ensures.same) (search rules) in
    let least = c.self.invariant.0 in
    let most = c.self.invariant.1 in
    rw (
      c.fitting.ensures,
      c.from.ensures,
      to_z-of_z w64 c.quotient.result (record { sfits = c.quotient.type_inv }),
      to_z-of_z w128 c.quotient.result (record { sfits = omega (arith, c.quotient.type_inv) }),
      c.quotient.ensures,
      to_z-of_z w32 c.value-divisor.result (record { sfits = c.value-divisor.type_inv }),
      c.value-divisor.ensures.same,
      some,
      to_z-of_z w64 c.self.inside.value (fits_signed_from_abs w64 _ (omega (arith, ints))),
      c.self.view_is,
    ) refl
