-- How many cases rows have.
use Rattle.std.specs.Prelude.{◌≡◌, ℕ, ◌+◌, List, [], ◌∷◌, length, Option, Some, None}
use Rattle.ags_domain.specs.Domain.{Meaning}
use Rattle.ags_domain.specs.declared.word_sets.WordSet.{WordSet}
use Rattle.ags_row.specs.Limit.{Limiting}
use Rattle.ags_row.specs.declared.rows.Row.{Row}
use Rattle.ags_safe.specs.Case.{IsCode}
use Rattle.ags_verdict.specs.RowCase.{cases_in}

module _ {D : Type 0} (meaning : Meaning D) (image : List (Option ℕ)) (limits : Limiting D) where
  -- how many cases a row has with its code; without one it has none
  abbrev pub number_with : Row D → Option WordSet → ℕ
  number_with row None = 0
  number_with row (Some code) = length (cases_in row code.list)

  -- a row has so many cases
  abbrev pub HasCases : Row D → ℕ → Type 0
  HasCases row number = (code : Option WordSet) × IsCode meaning image limits row code × (number ≡ number_with row code)

  -- rows have so many cases together
  abbrev pub HaveCases : List (Row D) → ℕ → Type 0
  HaveCases [] number = number ≡ 0
  HaveCases (row ∷ rows) number = (one : ℕ) × (rest : ℕ) × HasCases row one × HaveCases rows rest × (number ≡ one + rest)
