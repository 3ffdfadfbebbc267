use Rattle.std.proofs.Common.{◌≡◌, ◌≤◌, ◌<◌, ◌*◌, ◌+◌, ◌-◌, ◌^◌, ℕ, ℤ, ◌+ℤ◌, List, [], ◌∷◌, Some, FitsSigned, refl, ap, ◌∙◌, arith, length, take, drop, get_or}
use Rattle.std.specs.Int.{w32}
use Rattle.std.proofs.lemmas.Int.{ints, to_z-of_z, fits_signed_from_abs}
use Rattle.std.proofs.lemmas.List.{take_all}
use Rattle.std.proofs.lemmas.Grind.{common_steps}
use Rattle.ags_card.specs.declared.terms.Term.{Term}
use Rattle.ags_symbol.specs.Symbol.{Entry, term_value, sum_of}
use Rattle.ags_symbol.specs.Bound.{IsAtMost}
use Rattle.ags_symbol.proofs.symbols.Symbols.+sum_of_terms.Goals as goal

fits : (size : ℕ) (n : ℤ) → IsAtMost size n → size < 2 ^ 31 → FitsSigned w32 n
fits size n small few = fits_signed_from_abs w32 n (omega (arith, ints))

-- one number more, and the bound is so much greater
sum_small : (count others : ℕ) (n sum : ℤ) → IsAtMost 999999 n → IsAtMost (999999 * others) sum → others + 1 ≡ count → IsAtMost (999999 * count) (n +ℤ sum)
sum_small count others n sum small rest more = record { least = omega (arith, ints); most = omega (arith, ints) }

value_fits : {t : ℕ} (c : goal.In_ok-others t) → FitsSigned w32 c.in_ok-value.value
value_fits c = fits 999999 c.in_ok-value.value c.in_ok-value.ensures.small (omega arith)

others_fit : {t : ℕ} (c : goal.In_ok-others t) → FitsSigned w32 c.in_ok-others.others
others_fit c = fits _ c.in_ok-others.others c.in_ok-others.ensures.small (omega (arith, c.requires.few))

sum_is_small : {t : ℕ} (c : goal.In_ok-others t) → IsAtMost (999999 * length c.args.terms.now) (c.in_ok-value.value +ℤ c.in_ok-others.others)
sum_is_small c = sum_small _ _ _ _ c.in_ok-value.ensures.small c.in_ok-others.ensures.small (omega (arith, c.in-len1-up.len_at_least))

sum_fits : {t : ℕ} (c : goal.In_ok-others t) → FitsSigned w32 (c.in_ok-value.value +ℤ c.in_ok-others.others)
sum_fits c = fits _ _ (sum_is_small c) (omega (arith, c.requires.few))

pub overflow_add-result : goal.overflow_add-result
overflow_add-result t c =
    rw (to_z-of_z w32 c.in_ok-value.value (value_fits c), to_z-of_z w32 c.in_ok-others.others (others_fit c)) (sum_fits c)

pub returns-clause-small : goal.returns-clause-small
returns-clause-small t c =
    let v = c.in_ok-value.value in
    let o = c.in_ok-others.others in
    rw (to_z-of_z w32 v (value_fits c), to_z-of_z w32 o (others_fit c), to_z-of_z w32 (v +ℤ o) (sum_fits c)) (sum_is_small c)

-- the sum of terms is the first one's value with the sum of the others
sum_of_more : (symbols : List Entry) (here : ℕ) (terms : List Term) (first : Term) (n sum : ℤ) → 1 ≤ length terms → first ≡ get_or terms 0 first
    → Some n ≡ term_value symbols here first → Some sum ≡ sum_of symbols here (take (length terms - 1) (drop 1 terms)) → Some (n +ℤ sum) ≡ sum_of symbols here terms
sum_of_more symbols here [] first n sum some is value others = absurd (omega (arith, some))
sum_of_more symbols here (term ∷ terms) first n sum some is value others =
    let same : take (length (term ∷ terms) - 1) terms ≡ terms = take_all (length (term ∷ terms) - 1) terms (omega arith) in
    rw (← is, ← value, ← (others ∙ ap (sum_of symbols here) same)) refl

pub returns-clause-value : goal.returns-clause-value
returns-clause-value t c =
    let v = c.in_ok-value.value in
    let o = c.in_ok-others.others in
    rw (to_z-of_z w32 v (value_fits c), to_z-of_z w32 o (others_fit c), to_z-of_z w32 (v +ℤ o) (sum_fits c))
    (sum_of_more c.args.self.now c.args.here c.args.terms.now c.first-item.result v o c.in-len1-up.len_at_least c.first-item.is c.in_ok-value.ensures.value c.in_ok-others.ensures.value)

pub returns-in_default-clause-value : goal.returns-in_default-clause-value
returns-in_default-clause-value t c = grind (arith, common_steps)

pub returns-in_err-others-clause-value : goal.returns-in_err-others-clause-value
returns-in_err-others-clause-value t c = grind (arith, common_steps)
