-- How many cases rows have: there is one such number. Behind the law are
--     some_cases, one_cases, told_cases
use Rattle.std.proofs.Common.{◌≡◌, ℕ, ◌+◌, refl, sym, ap, ◌∙◌, arith, List, [], ◌∷◌}
use Rattle.std.specs.Prelude.{Option, Some}
use Rattle.ags_domain.specs.Value.{value_meaning}
use Rattle.ags_domain.specs.declared.values.Value.{Value}
use Rattle.ags_domain.specs.declared.word_sets.WordSet.{WordSet}
use Rattle.ags_row.specs.Limit.{Limiting}
use Rattle.ags_row.specs.declared.rows.Row.{Row}
use Rattle.ags_safe.specs.Case.{IsCode}
use Rattle.ags_safe.proofs.CodeLemmas.{code_one}
use Rattle.ags_verdict.specs.Flat.{IsNumberOfCases}
use Rattle.ags_verdict.specs.Counting.{number_with, HasCases, HaveCases}

module _ (image : List (Option ℕ)) (limits : Limiting Value) where
  pub some_cases : ((row : Row Value) → (code : Option WordSet) × IsCode value_meaning image limits row code) → (rows : List (Row Value))
      → (cases : ℕ) × HaveCases value_meaning image limits rows cases
  some_cases each [] = (0, refl)
  some_cases each (row ∷ rows) =
      let (code, is) = each row in
      let (rest, have) = some_cases each rows in (
        number_with value_meaning image limits row code + rest,
        (number_with value_meaning image limits row code, rest, (code, is, refl), have, refl),
      )

  row_one : (row : Row Value) (one other : ℕ) → HasCases value_meaning image limits row one → HasCases value_meaning image limits row other → one ≡ other
  row_one row one other p r =
      p.2 ∙ ap (number_with value_meaning image limits row) (code_one value_meaning image limits row p.0 r.0 p.1 r.1) ∙ sym r.2

  pub one_cases : (rows : List (Row Value)) (one other : ℕ) → HaveCases value_meaning image limits rows one → HaveCases value_meaning image limits rows other
      → one ≡ other
  one_cases [] one other p r = p ∙ sym r
  one_cases (row ∷ rows) one other p r =
      let head : p.0 ≡ r.0 = row_one row p.0 r.0 p.2 r.2 in
      let tail : p.1 ≡ r.1 = one_cases rows p.1 r.1 p.3 r.3 in
      omega (arith, head, tail, p.4, r.4)

  pub told_cases : (rows : List (Row Value)) (cases : ℕ) → IsNumberOfCases value_meaning image limits rows cases → HaveCases value_meaning image limits rows cases
  told_cases [] cases is = is
  told_cases (row ∷ rows) cases (code, rest, is_code, behind, is) =
      (number_with value_meaning image limits row (Some code), rest, (Some code, is_code, refl), told_cases rows rest behind, is)
