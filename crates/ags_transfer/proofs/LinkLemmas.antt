-- Sums and differences of a word's value and a link's offset keep within 32 bits.
use Rattle.std.proofs.Common.{◌≡◌, true, arith, ℤ, pos, neg_ℤ, ◌+ℤ◌, ◌-ℤ◌, ◌≤ℤ◌, ◌<ℤ◌, ◌^◌, FitsSigned, to_z, of_z, w32}
use Rattle.std.specs.Prelude.{Some}
use Rattle.std.proofs.lemmas.Int.{ints, to_z-of_z, fits_signed_from_abs}
use Rattle.ags_row.specs.Link.{is_link}
use Rattle.ags_row.specs.declared.links.Link.{Link}

small : (n : ℤ) → neg_ℤ (pos 1000000) ≤ℤ n → n ≤ℤ pos 1000000 → FitsSigned w32 n
small n h k = fits_signed_from_abs w32 n (omega (arith, ints))

offset_from : (link : Link) → is_link (Some link) ≡ true → neg_ℤ (pos 262143) ≤ℤ link.offset
offset_from link h = grind (arith, ints, h)

offset_to : (link : Link) → is_link (Some link) ≡ true → link.offset ≤ℤ pos 262143
offset_to link h = grind (arith, ints, h)

module _ (link : Link) (stands : is_link (Some link) ≡ true) (v : ℤ) (from : neg_ℤ (pos (2 ^ 17)) ≤ℤ v) (to : v <ℤ pos (2 ^ 17)) where
  offset_small : FitsSigned w32 link.offset
  offset_small = let low = offset_from link stands in let high = offset_to link stands in small link.offset (omega (arith, ints)) (omega (arith, ints))

  value_small : FitsSigned w32 v
  value_small = small v (omega (arith, ints)) (omega (arith, ints))

  sum_small : FitsSigned w32 (v +ℤ link.offset)
  sum_small = let low = offset_from link stands in let high = offset_to link stands in small (v +ℤ link.offset) (omega (arith, ints)) (omega (arith, ints))

  difference_small : FitsSigned w32 (link.offset -ℤ v)
  difference_small = let low = offset_from link stands in let high = offset_to link stands in small (link.offset -ℤ v) (omega (arith, ints)) (omega (arith, ints))

  pub sum_kept : to_z w32 (of_z w32 (to_z w32 (of_z w32 v) +ℤ to_z w32 (of_z w32 link.offset))) ≡ (v +ℤ link.offset)
  sum_kept = rw (to_z-of_z w32 v value_small, to_z-of_z w32 link.offset offset_small) (to_z-of_z w32 (v +ℤ link.offset) sum_small)

  pub difference_kept : to_z w32 (of_z w32 (to_z w32 (of_z w32 link.offset) -ℤ to_z w32 (of_z w32 v))) ≡ (link.offset -ℤ v)
  difference_kept = rw (to_z-of_z w32 v value_small, to_z-of_z w32 link.offset offset_small) (to_z-of_z w32 (link.offset -ℤ v) difference_small)

-- what is taken away was added with the other sign
pub taken_away : (n v : ℤ) → (v +ℤ n) ≡ (n -ℤ neg_ℤ v)
taken_away n v = omega (arith, ints)
