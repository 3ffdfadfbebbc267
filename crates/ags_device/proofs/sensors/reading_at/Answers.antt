use Rattle.std.proofs.Common.{ℤ, pos, ◌^◌, FitsSigned, ◌+ℤ◌, refl, arith}
use Rattle.std.specs.Int.{w32, w64}
use Rattle.std.specs.Prelude.{neg_ℤ, ◌≤ℤ◌, ◌<ℤ◌}
use Rattle.std.proofs.lemmas.Int.{ints, to_z-of_z, fits_signed_from_abs}
use Rattle.ags_device.proofs.sensors.reading_at.Goals as goal

pub rise-requires : goal.rise-requires
rise-requires c =
    rw (to_z-of_z w32 c.value-2.result (record { sfits = c.value-2.type_inv }))
    (record { least = c.value-2.ensures.least; most = c.value-2.ensures.most })

sum_fits : (n m : ℤ) → neg_ℤ (pos (2 ^ 17)) ≤ℤ n → n <ℤ pos (2 ^ 17) → neg_ℤ (pos (2 ^ 49)) ≤ℤ m → m ≤ℤ pos (2 ^ 49) → FitsSigned w64 (n +ℤ m)
sum_fits n m least most rise_least rise_most = fits_signed_from_abs w64 _ (omega (arith, ints))

pub overflow_add-from : goal.overflow_add-from
overflow_add-from c =
    let first = c.value.result in
    rw (
      c.from.ensures,
      to_z-of_z w32 first (record { sfits = c.value.type_inv }),
      to_z-of_z w64 first (record { sfits = omega (arith, c.value.type_inv) }),
      to_z-of_z w64 c.rise.result (record { sfits = c.rise.type_inv }),
    ) (sum_fits first c.rise.result c.value.ensures.least c.value.ensures.most c.rise.ensures.least c.rise.ensures.most)

pub returns : goal.returns
returns c =
    let first = c.value.result in
    rw (
      c.wrapped.ensures,
      c.from.ensures,
      to_z-of_z w32 first (record { sfits = c.value.type_inv }),
      to_z-of_z w64 first (record { sfits = omega (arith, c.value.type_inv) }),
      to_z-of_z w64 c.rise.result (record { sfits = c.rise.type_inv }),
      to_z-of_z w64 (first +ℤ c.rise.result) (sum_fits first c.rise.result c.value.ensures.least c.value.ensures.most c.rise.ensures.least c.rise.ensures.most),
      c.rise.ensures.same,
      to_z-of_z w32 c.value-2.result (record { sfits = c.value-2.type_inv }),
      c.value.ensures.same,
      c.value-2.ensures.same,
    ) refl
