-- The rows that are found, by their numbers.
use Rattle.std.proofs.Common.{ℕ, refl, subst, List, Option, Some, None}
use Rattle.std.specs.Prelude.{IsTrue}
use Rattle.std.specs.Option.{is_some}
use Rattle.ags_row.specs.declared.rows.Row.{Row}
use Rattle.ags_check.specs.Finding.{SomeRow, IsFound}

-- a row that is found is some row
some_row : {D : Type 0} (has : ℕ → Row D → Type 0) (rows : List (Row D)) (number : ℕ) → IsFound has rows (Some number) → SomeRow has rows
some_row has rows number is = (is.0, is.1, is.2, is.3, subst (λ (n : ℕ). has n is.1) is.5 is.4)

-- just where there is some row one is found
pub found_exactly : {D : Type 0} (has : ℕ → Row D → Type 0) (rows : List (Row D)) (found : Option ℕ) → IsFound has rows found
    → (IsTrue (is_some found) → SomeRow has rows) × (SomeRow has rows → IsTrue (is_some found))
found_exactly has rows None is = (λ yes. absurd cc, λ some. absurd (is some))
found_exactly has rows (Some number) is = (λ yes. some_row has rows number is, λ some. refl)
