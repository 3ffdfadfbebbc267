-- What the walk over the rows comes to is what the certificate's rows are judged to be.
use Rattle.std.proofs.Common.{◌≡◌, ℕ, ◌+◌, refl, sym, ap, subst, List, [], ◌∷◌, inl, inr}
use Rattle.std.specs.Prelude.{Option, Some, None, Result, Ok, Err}
use Rattle.ags_domain.specs.Value.{value_meaning}
use Rattle.ags_domain.specs.declared.values.Value.{Value}
use Rattle.ags_domain.specs.declared.word_sets.WordSet.{WordSet}
use Rattle.ags_ports.specs.declared.machines.Machine.{Machine}
use Rattle.ags_row.specs.Limit.{Limiting}
use Rattle.ags_row.specs.declared.rows.Row.{Row}
use Rattle.ags_safe.specs.Certificate.{Certificate}
use Rattle.ags_verdict.specs.InOrder.{InOrder}
use Rattle.ags_verdict.specs.RowCase.{RowCase, case_in}
use Rattle.ags_verdict.specs.Fault.{IsCaseJudged, IsJudgedWith, IsRowJudged, IsRowJudgedAt, refusal_of}
use Rattle.ags_verdict.specs.declared.verdicts.RowFault.{RowFault}
use Rattle.ags_verdict.specs.declared.verdicts.RowFault.TheVariants.{CodeUnknown}
use Rattle.ags_verdict.specs.declared.verdicts.Refusal.{Refusal}
use Rattle.ags_verdict.specs.Walk.{IsWalkedWith, IsWalked, IsWalkedAt, AreWalked}
use Rattle.ags_verdict.specs.declared.walks.AtRow.{AtRow}

-- what is counted by one judgement is counted by another
each_counted : {X F G : Type 0} (one : ℕ → X → Result ℕ F → Type 0) (other : ℕ → X → Result ℕ G → Type 0)
    → ((position : ℕ) (x : X) (count : ℕ) → one position x (Ok count) → other position x (Ok count))
    → (position : ℕ) (xs : List X) (count : ℕ) → InOrder one position xs (Ok count) → InOrder other position xs (Ok count)
each_counted one other moved position [] count is = is
each_counted one other moved position (x ∷ xs) count is =
    (is.0, is.1, moved position x is.0 is.2, each_counted one other moved (position + 1) xs is.1 is.3, is.4)

-- a fault by one judgement is told by another
each_told : {X F G : Type 0} (one : ℕ → X → Result ℕ F → Type 0) (other : ℕ → X → Result ℕ G → Type 0) (tell : F → G)
    → ((position : ℕ) (x : X) (count : ℕ) → one position x (Ok count) → other position x (Ok count))
    → ((position : ℕ) (x : X) (fault : F) → one position x (Err fault) → other position x (Err (tell fault)))
    → (position : ℕ) (xs : List X) (fault : F) → InOrder one position xs (Err fault) → InOrder other position xs (Err (tell fault))
each_told one other tell moved told position [] fault is = is
each_told one other tell moved told position (x ∷ xs) fault (inl fails) = inl (told position x fault fails)
each_told one other tell moved told position (x ∷ xs) fault (inr later) =
    inr (later.0, moved position x later.0 later.1, each_told one other tell moved told (position + 1) xs fault later.2)

module _ (machine : Machine) (image : List (Option ℕ)) (cert : Certificate Value) where
  abbrev Judges : ℕ → Row Value → RowCase → Result ℕ (RowFault Value) → Type 0
  Judges number row c outcome = IsCaseJudged value_meaning cert (case_in machine image cert.limits row c) outcome

  with_judged : (number : ℕ) (row : Row Value) (code : Option WordSet) (outcome : Result ℕ (RowFault Value))
      → IsWalkedWith value_meaning image cert.limits (Err CodeUnknown) Judges number row code outcome
      → IsJudgedWith value_meaning cert machine image row code outcome
  with_judged number row None outcome is = is
  with_judged number row (Some code) outcome is = is

  row_judged : (number : ℕ) (row : Row Value) (outcome : Result ℕ (RowFault Value))
      → IsWalked value_meaning image cert.limits (Err CodeUnknown) Judges number row outcome → IsRowJudged value_meaning cert machine image row outcome
  row_judged number row outcome is = (is.0, is.1, with_judged number row is.0 outcome is.2)

  abbrev Walks : ℕ → Row Value → Result ℕ (AtRow (RowFault Value)) → Type 0
  Walks number row o = IsWalkedAt value_meaning image cert.limits (Err CodeUnknown) Judges number row o

  abbrev Judged : ℕ → Row Value → Result ℕ (Refusal Value) → Type 0
  Judged number row o = IsRowJudgedAt value_meaning cert machine image number row o

  abbrev told_at : AtRow (RowFault Value) → Refusal Value
  told_at told = refusal_of told.row told.fault

  rows_counted : (count : ℕ) → InOrder Walks 1 cert.rows (Ok count) → InOrder Judged 1 cert.rows (Ok count)
  rows_counted count is = each_counted Walks Judged (λ number row count is. row_judged number row (Ok count) is) 1 cert.rows count is

  rows_told : (told : AtRow (RowFault Value)) → InOrder Walks 1 cert.rows (Err told) → InOrder Judged 1 cert.rows (Err (told_at told))
  rows_told told is = each_told Walks Judged told_at
      (λ number row count is. row_judged number row (Ok count) is)
      (λ number row told is. (told.fault, row_judged number row (Err told.fault) is.0, ap (λ (n : ℕ). refusal_of n told.fault) is.1)) 1 cert.rows told is

  rows_are_judged : (outcome : Result ℕ (AtRow (RowFault Value))) (result : Result ℕ (Refusal Value))
      → ((count : ℕ) → outcome ≡ Ok count → result ≡ Ok count)
      → ((told : AtRow (RowFault Value)) → outcome ≡ Err told → result ≡ Err (told_at told))
      → InOrder Walks 1 cert.rows outcome → InOrder Judged 1 cert.rows result
  rows_are_judged (Ok count) result counted refused is =
      subst (λ (r : Result ℕ (Refusal Value)). InOrder Judged 1 cert.rows r) (sym (counted count refl)) (rows_counted count is)
  rows_are_judged (Err told) result counted refused is =
      subst (λ (r : Result ℕ (Refusal Value)). InOrder Judged 1 cert.rows r) (sym (refused told refl)) (rows_told told is)

  -- the walk was made with the certificate's limits and rows
  pub walked_judged : (limits : Limiting Value) (rows : List (Row Value)) (outcome : Result ℕ (AtRow (RowFault Value))) (result : Result ℕ (Refusal Value))
      → limits ≡ cert.limits → rows ≡ cert.rows
      → ((count : ℕ) → outcome ≡ Ok count → result ≡ Ok count)
      → ((told : AtRow (RowFault Value)) → outcome ≡ Err told → result ≡ Err (told_at told))
      → AreWalked value_meaning image limits (Err CodeUnknown) Judges rows outcome → InOrder Judged 1 cert.rows result
  walked_judged limits rows outcome result same_limits same_rows counted refused is = rows_are_judged outcome result counted refused
      (subst (λ (l : Limiting Value). AreWalked value_meaning image l (Err CodeUnknown) Judges cert.rows outcome) same_limits
      (subst (λ (rs : List (Row Value)). AreWalked value_meaning image limits (Err CodeUnknown) Judges rs outcome) same_rows is))
