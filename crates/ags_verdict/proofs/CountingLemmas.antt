-- How many cases rows have, as a loop goes through them.
use Rattle.std.proofs.Common.{◌≡◌, ℕ, zero, suc, ◌+◌, ◌<◌, ◌≤◌, refl, sym, ap, subst, ◌∙◌, arith, List, [], ◌∷◌, length, take, get_or}
use Rattle.std.specs.Prelude.{Option}
use Rattle.ags_domain.specs.Domain.{Meaning}
use Rattle.ags_domain.specs.declared.word_sets.WordSet.{WordSet}
use Rattle.ags_row.specs.Limit.{Limiting}
use Rattle.ags_row.specs.declared.rows.Row.{Row}
use Rattle.ags_safe.specs.Case.{IsCode}
use Rattle.ags_safe.proofs.CodeLemmas.{code_one}
use Rattle.ags_verdict.specs.Counting.{number_with, HasCases, HaveCases}

module _ {D : Type 0} (meaning : Meaning D) (image : List (Option ℕ)) (limits : Limiting D) where
  -- a row has the cases of the code that was found
  pub cases_of_code : (row : Row D) (code : Option WordSet) (cases : ℕ) → IsCode meaning image limits row code → HasCases meaning image limits row cases
      → cases ≡ number_with meaning image limits row code
  cases_of_code row code cases is has =
      has.2 ∙ ap (number_with meaning image limits row) (code_one meaning image limits row has.0 code has.1 is)

  last_suc : (rows : List (Row D)) (i cases : ℕ) (row d : Row D) → i < length rows → row ≡ get_or rows i d → HaveCases meaning image limits (take (suc i) rows) cases
      → (front : ℕ) × (last : ℕ) × HaveCases meaning image limits (take i rows) front × HasCases meaning image limits row last × (cases ≡ front + last)
  last_suc [] i cases row d inside is have = absurd (omega (arith, inside))
  last_suc (r ∷ rows) zero cases row d inside is have =
      (0, have.0, refl, subst (λ (x : Row D). HasCases meaning image limits x have.0) (sym is) have.2, omega (arith, have.3, have.4))
  last_suc (r ∷ rows) (suc i) cases row d inside is have =
      let rest = last_suc rows i have.1 row d (omega (arith, inside)) is have.3 in
      (have.0 + rest.0, rest.1, (have.0, rest.0, have.2, rest.2, refl), rest.3, omega (arith, have.4, rest.4))

  -- the first rows, and one more
  pub last_row : (rows : List (Row D)) (i cases : ℕ) (row d : Row D) → i < length rows → row ≡ get_or rows i d → HaveCases meaning image limits (take (i + 1) rows) cases
      → (front : ℕ) × (last : ℕ) × HaveCases meaning image limits (take i rows) front × HasCases meaning image limits row last × (cases ≡ front + last)
  last_row rows i cases row d inside is have =
      let next : i + 1 ≡ suc i = omega arith in
      last_suc rows i cases row d inside is (subst (λ (n : ℕ). HaveCases meaning image limits (take n rows) cases) next have)

  -- the step that a loop takes at one more row
  pub steps_further : (rows : List (Row D)) (i old now new : ℕ) (row d : Row D) → i < length rows → row ≡ get_or rows i d
      → ((cases : ℕ) → HaveCases meaning image limits (take i rows) cases → now ≤ old + cases)
      → ((cases : ℕ) → HasCases meaning image limits row cases → new ≤ now + cases)
      → (cases : ℕ) → HaveCases meaning image limits (take (i + 1) rows) cases → new ≤ old + cases
  steps_further rows i old now new row d inside is before here cases have =
      let last = last_row rows i cases row d inside is have in
      omega (arith, before last.0 last.2, here last.1 last.3, last.4)

  -- the first rows have no more than all
  pub first_rows : (rows : List (Row D)) (i cases : ℕ) → HaveCases meaning image limits rows cases
      → (front : ℕ) × HaveCases meaning image limits (take i rows) front × (front ≤ cases)
  first_rows rows zero cases have = (0, refl, omega arith)
  first_rows [] (suc i) cases have = (0, refl, omega arith)
  first_rows (r ∷ rows) (suc i) cases have =
      let rest = first_rows rows i have.1 have.3 in
      (have.0 + rest.0, (have.0, rest.0, have.2, rest.1, refl), omega (arith, have.4, rest.2))

  -- what is spent up to a row is spent within all
  pub steps_within : (rows : List (Row D)) (i old new : ℕ) → ((cases : ℕ) → HaveCases meaning image limits (take i rows) cases → new ≤ old + cases)
      → (cases : ℕ) → HaveCases meaning image limits rows cases → new ≤ old + cases
  steps_within rows i old new before cases have =
      let first = first_rows rows i cases have in
      omega (arith, before first.0 first.1, first.2)
