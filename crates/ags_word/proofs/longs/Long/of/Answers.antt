use Rattle.std.proofs.Common.{pos, ◌+ℤ◌, ◌*ℤ◌, ◌%◌, refl, arith}
use Rattle.std.specs.Int.{w32, w64}
use Rattle.std.proofs.lemmas.Int.{ints, to_z-of_z, fits_signed_from_abs}
use Rattle.ags_word.specs.Long.{long}
use Rattle.ags_word.proofs.longs.Long.of.Goals as goal

pub returns : goal.returns
unfolding long
returns c =
    let value = c.value.result in
    let least = c.value.ensures.least in
    let most = c.value.ensures.most in
    let low = c.number.result % 131072 in
    rw (
      c.from.ensures,
      c.from-2.ensures,
      to_z-of_z w32 value (record { sfits = c.value.type_inv }),
      to_z-of_z w64 value (record { sfits = omega (arith, c.value.type_inv) }),
      to_z-of_z w64 (value *ℤ pos 131072) (fits_signed_from_abs w64 _ (omega (arith, ints))),
      to_z-of_z w64 (pos low) (fits_signed_from_abs w64 _ (omega arith)),
      to_z-of_z w64 (value *ℤ pos 131072 +ℤ pos low) (fits_signed_from_abs w64 _ (omega (arith, ints))),
      c.value.ensures.same,
      c.number.ensures.same,
    ) refl

pub invariant_of-result : goal.invariant_of-result
unfolding long
invariant_of-result c =
    let least = c.value.ensures.least in
    let most = c.value.ensures.most in
    rw (returns c, ← c.value.ensures.same) (omega (arith, ints), omega (arith, ints))
