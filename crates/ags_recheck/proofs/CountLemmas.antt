-- How many steps it takes to judge all rows.
use Rattle.std.proofs.Common.{◌≡◌, ℕ, zero, suc, ◌+◌, ◌<◌, ◌≤◌, refl, sym, subst, arith, List, [], ◌∷◌, length, take, get_or}
use Rattle.std.specs.Prelude.{Option}
use Rattle.ags_domain.specs.Value.{value_meaning}
use Rattle.ags_domain.specs.declared.values.Value.{Value}
use Rattle.ags_row.specs.Limit.{Limiting}
use Rattle.ags_row.specs.declared.rows.Row.{Row}
use Rattle.ags_verdict.specs.Counting.{HasCases, HaveCases}

module _ (image : List (Option ℕ)) (limits : Limiting Value) where
  last_suc : (rows : List (Row Value)) (i cases : ℕ) (row : Row Value) → i < length rows → row ≡ get_or rows i row → HaveCases value_meaning image limits (take (suc i) rows) cases
      → (front : ℕ) × (last : ℕ) × HaveCases value_meaning image limits (take i rows) front × HasCases value_meaning image limits row last × (cases ≡ front + last)
  last_suc [] i cases row inside is have = absurd (omega (arith, inside))
  last_suc (r ∷ rows) zero cases row inside is have =
      (0, have.0, refl, subst (λ (x : Row Value). HasCases value_meaning image limits x have.0) (sym is) have.2, omega (arith, have.3, have.4))
  last_suc (r ∷ rows) (suc i) cases row inside is have =
      let rest = last_suc rows i have.1 row (omega (arith, inside)) is have.3 in
      (have.0 + rest.0, rest.1, (have.0, rest.0, have.2, rest.2, refl), rest.3, omega (arith, have.4, rest.4))

  -- the step that a loop takes at one more row
  pub steps_further : (rows : List (Row Value)) (i old now new : ℕ) (row : Row Value) → i < length rows → row ≡ get_or rows i row
      → ((cases : ℕ) → HaveCases value_meaning image limits (take i rows) cases → now ≤ old + cases)
      → ((cases : ℕ) → HasCases value_meaning image limits row cases → new ≤ now + cases)
      → (cases : ℕ) → HaveCases value_meaning image limits (take (i + 1) rows) cases → new ≤ old + cases
  steps_further rows i old now new row inside is before here cases have =
      let next : i + 1 ≡ suc i = omega arith in
      let last = last_suc rows i cases row inside is (subst (λ (n : ℕ). HaveCases value_meaning image limits (take n rows) cases) next have) in
      omega (arith, before last.0 last.2, here last.1 last.3, last.4)
