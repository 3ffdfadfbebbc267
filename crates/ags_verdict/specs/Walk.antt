-- What comes of the rows of a certificate, by what comes of each of their cases, in order.
use Rattle.std.specs.Prelude.{◌≡◌, ℕ, List, Option, Some, None, Result, Ok, Err}
use Rattle.ags_domain.specs.Domain.{Meaning}
use Rattle.ags_domain.specs.declared.word_sets.WordSet.{WordSet}
use Rattle.ags_row.specs.Limit.{Limiting}
use Rattle.ags_row.specs.declared.rows.Row.{Row}
use Rattle.ags_safe.specs.Case.{IsCode}
use Rattle.ags_verdict.specs.InOrder.{InOrder}
use Rattle.ags_verdict.specs.RowCase.{RowCase, cases_in}
use Rattle.ags_verdict.specs.declared.walks.AtRow.{AtRow}

module _ {D F : Type 0} (meaning : Meaning D) (image : List (Option ℕ)) (limits : Limiting D) (unknown : Result ℕ F)
    (judges : ℕ → Row D → RowCase → Result ℕ F → Type 0) where
  -- a row, by its number, with the code that it has: what comes of its cases in order; or without one: what comes of such a row
  abbrev pub IsWalkedWith : ℕ → Row D → Option WordSet → Result ℕ F → Type 0
  IsWalkedWith number row None outcome = outcome ≡ unknown
  IsWalkedWith number row (Some code) outcome = InOrder (λ position c. judges number row c) 0 (cases_in row code.list) outcome

  -- what comes of a row
  abbrev pub IsWalked : ℕ → Row D → Result ℕ F → Type 0
  IsWalked number row outcome = (code : Option WordSet) × IsCode meaning image limits row code × IsWalkedWith number row code outcome

  -- so it is, and a fault tells the row's number
  abbrev pub IsWalkedAt : ℕ → Row D → Result ℕ (AtRow F) → Type 0
  IsWalkedAt number row (Ok count) = IsWalked number row (Ok count)
  IsWalkedAt number row (Err told) = IsWalked number row (Err told.fault) × (told.row ≡ number)

  -- What comes of the rows, which are numbered from 1: how many of their cases were counted, or the first fault.
  abbrev pub AreWalked : List (Row D) → Result ℕ (AtRow F) → Type 0
  AreWalked rows outcome = InOrder IsWalkedAt 1 rows outcome
