use Rattle.std.proofs.Common.{◌≡◌, ◌<◌, ◌*◌, ◌+◌, ◌^◌, ℕ, ℤ, ◌+ℤ◌, FitsSigned, arith, length}
use Rattle.std.specs.Int.{w32}
use Rattle.std.proofs.lemmas.Int.{ints, to_z-of_z, fits_signed_from_abs}
use Rattle.std.proofs.lemmas.Grind.{common_steps}
use Rattle.ags_symbol.specs.Bound.{IsAtMost}
use Rattle.ags_symbol.proofs.symbols.Symbols.+split_terms.Goals as goal

pub returns-in_default-clause-sum : goal.returns-in_default-clause-sum
returns-in_default-clause-sum g c = grind (arith, common_steps)

pub returns-in_default-clause-open : goal.returns-in_default-clause-open
returns-in_default-clause-open g c = grind (arith, common_steps)

pub returns-in_default-term_value-clause-sum : goal.returns-in_default-term_value-clause-sum
returns-in_default-term_value-clause-sum g c = grind (arith, common_steps)

pub returns-in_default-term_value-clause-open : goal.returns-in_default-term_value-clause-open
returns-in_default-term_value-clause-open g c = grind (arith, common_steps)

pub returns-clause-sum : goal.returns-clause-sum
returns-clause-sum g c = grind (arith, common_steps)

pub returns-clause-open : goal.returns-clause-open
returns-clause-open g c = grind (arith, common_steps)

fits : (size : ℕ) (n : ℤ) → IsAtMost size n → size < 2 ^ 31 → FitsSigned w32 n
fits size n small few = fits_signed_from_abs w32 n (omega (arith, ints))

-- one number more, and the bound is so much greater
sum_small : (count others : ℕ) (n sum : ℤ) → IsAtMost 999999 n → IsAtMost (999999 * others) sum → others + 1 ≡ count → IsAtMost (999999 * count) (n +ℤ sum)
sum_small count others n sum small rest more = record { least = omega (arith, ints); most = omega (arith, ints) }

pub returns-clause-small : goal.returns-clause-small
returns-clause-small g c =
    let v = c.in-Some.value in
    let o = c.split_terms-others.result in
    let sum : IsAtMost (999999 * length c.args.terms.now) (v +ℤ o) =
    sum_small _ _ _ _ c.in-Some.ensures.small c.split_terms-others.ensures.small (omega (arith, c.in-len1-up.len_at_least)) in
    rw (
      to_z-of_z w32 v (fits 999999 v c.in-Some.ensures.small (omega arith)),
      to_z-of_z w32 o (fits _ o c.split_terms-others.ensures.small (omega (arith, c.requires.room))),
      to_z-of_z w32 (v +ℤ o) (fits _ _ sum (omega (arith, c.requires.room))),
    ) sum
