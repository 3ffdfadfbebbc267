use Rattle.std.proofs.Common.{pos, ◌+ℤ◌, refl, arith}
use Rattle.std.specs.Int.{w128}
use Rattle.std.proofs.lemmas.Int.{ints, to_z-of_z, fits_signed_from_abs}
use Rattle.ags_word.proofs.words.Word.multiply_round.Goals as goal

pub returns-clause-a : goal.returns-clause-a
returns-clause-a c =
    let least = c.exact.ensures.least in
    let most = c.exact.ensures.most in
    rw (
      c.wrapped.ensures,
      to_z-of_z w128 c.shifted_right-nearest.result (record { sfits = c.shifted_right-nearest.type_inv }),
      c.shifted_right-nearest.ensures,
      to_z-of_z w128 c.exact.result (record { sfits = c.exact.type_inv }),
      to_z-of_z w128 (c.exact.result +ℤ pos 65536) (fits_signed_from_abs w128 _ (omega (arith, ints))),
      c.exact.ensures.same,
    ) refl
