-- Rows that are walked over, one more at a time.
use Rattle.std.proofs.Common.{◌≡◌, ℕ, ◌+◌, ◌<◌, subst, List, length, take, get_or}
use Rattle.std.specs.Prelude.{Option, Result, Ok, Err}
use Rattle.ags_domain.specs.Domain.{Meaning}
use Rattle.ags_row.specs.Limit.{Limiting}
use Rattle.ags_row.specs.declared.rows.Row.{Row}
use Rattle.ags_verdict.specs.RowCase.{RowCase}
use Rattle.ags_verdict.specs.Walk.{IsWalkedAt, AreWalked}
use Rattle.ags_verdict.specs.declared.walks.AtRow.{AtRow}
use Rattle.ags_verdict.proofs.OrderLemmas.{further, fails_at}

module _ {D F : Type 0} (meaning : Meaning D) (image : List (Option ℕ)) (limits : Limiting D) (unknown : Result ℕ F)
    (judges : ℕ → Row D → RowCase → Result ℕ F → Type 0) (rows : List (Row D)) (i count : ℕ) (row d : Row D) (inside : i < length rows) (is : row ≡ get_or rows i d)
    (so_far : AreWalked meaning image limits unknown judges (take i rows) (Ok count)) where
  pub row_further : (number more : ℕ) → number ≡ i + 1 → IsWalkedAt meaning image limits unknown judges number row (Ok more)
      → AreWalked meaning image limits unknown judges (take (i + 1) rows) (Ok (count + more))
  row_further number more position walked = further (λ n r o. IsWalkedAt meaning image limits unknown judges n r o) 1 rows i count more row d inside is so_far
      (subst (λ (n : ℕ). IsWalkedAt meaning image limits unknown judges n row (Ok more)) position walked)

  pub row_fails : (number : ℕ) (told : AtRow F) → number ≡ i + 1 → IsWalkedAt meaning image limits unknown judges number row (Err told)
      → AreWalked meaning image limits unknown judges rows (Err told)
  row_fails number told position walked = fails_at (λ n r o. IsWalkedAt meaning image limits unknown judges n r o) 1 rows i count told row d inside is so_far
      (subst (λ (n : ℕ). IsWalkedAt meaning image limits unknown judges n row (Err told)) position walked)
