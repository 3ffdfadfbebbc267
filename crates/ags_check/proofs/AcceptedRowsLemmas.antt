-- What comes of each accepted case comes of the rows of an accepted certificate.
use Rattle.std.proofs.Common.{◌≡◌, ℕ, ◌+◌, subst, List, [], ◌∷◌, inl, inr}
use Rattle.std.specs.Prelude.{Option, Some, None, Result, Ok, Err}
use Rattle.std.specs.List.{AllByRecursion}
use Rattle.std.proofs.lemmas.List.Elements.{recursion_from_All}
use Rattle.ags_domain.specs.Value.{value_meaning}
use Rattle.ags_domain.specs.declared.values.Value.{Value}
use Rattle.ags_domain.specs.declared.word_sets.WordSet.{WordSet}
use Rattle.ags_ports.specs.declared.machines.Machine.{Machine}
use Rattle.ags_row.specs.Limit.{Limiting}
use Rattle.ags_row.specs.declared.rows.Row.{Row}
use Rattle.ags_safe.specs.Case.{IsCode}
use Rattle.ags_safe.proofs.CodeLemmas.{code_one}
use Rattle.ags_safe.specs.Certificate.{Certificate}
use Rattle.ags_safe.specs.Accepted.{IsCaseAccepted, IsRowAccepted, Accepted}
use Rattle.ags_verdict.specs.InOrder.{InOrder}
use Rattle.ags_verdict.specs.RowCase.{RowCase, cases_in, case_in}
use Rattle.ags_verdict.proofs.CaseLemmas.{cases_each}
use Rattle.ags_verdict.specs.Walk.{IsWalkedWith, IsWalkedAt, AreWalked}
use Rattle.ags_verdict.specs.declared.walks.AtRow.{AtRow}
use Rattle.ags_certtype.specs.Cert.{Stated, certificate_of}

-- where a fact holds of each thing, what comes of each by one judgement comes of it by another
each_moved_where : {X F : Type 0} (P : X → Type 0) (one other : ℕ → X → Result ℕ F → Type 0)
    → ((position : ℕ) (x : X) (outcome : Result ℕ F) → P x → one position x outcome → other position x outcome)
    → (position : ℕ) (xs : List X) (outcome : Result ℕ F) → AllByRecursion P xs → InOrder one position xs outcome → InOrder other position xs outcome
each_moved_where P one other moved position [] (Ok count) each is = is
each_moved_where P one other moved position [] (Err fault) each is = is
each_moved_where P one other moved position (x ∷ xs) (Ok count) each is =
    (is.0, is.1, moved position x (Ok is.0) each.0 is.2, each_moved_where P one other moved (position + 1) xs (Ok is.1) each.1 is.3, is.4)
each_moved_where P one other moved position (x ∷ xs) (Err fault) each (inl fails) = inl (moved position x (Err fault) each.0 fails)
each_moved_where P one other moved position (x ∷ xs) (Err fault) each (inr later) =
    inr (later.0, moved position x (Ok later.0) each.0 later.1, each_moved_where P one other moved (position + 1) xs (Err fault) each.1 later.2)

module _ (machine : Machine) (image : List (Option ℕ)) (stated : Stated) {F : Type 0} (judges : ℕ → Row Value → RowCase → Result ℕ F → Type 0) where
  abbrev cert : Certificate Value
  cert = certificate_of stated

  abbrev CaseAccepted : Row Value → RowCase → Type 0
  CaseAccepted row c = IsCaseAccepted value_meaning cert (case_in machine image cert.limits row c)

  -- what comes of a case where it is accepted
  abbrev Asked : ℕ → Row Value → RowCase → Result ℕ F → Type 0
  Asked number row c o = CaseAccepted row c → judges number row c o

  with_judged : (number : ℕ) (row : Row Value) (code : Option WordSet) (outcome : Result ℕ F) → IsRowAccepted value_meaning machine image cert row
      → IsCode value_meaning image cert.limits row code → IsWalkedWith value_meaning image cert.limits (Ok 0) Asked number row code outcome
      → IsWalkedWith value_meaning image cert.limits (Ok 0) judges number row code outcome
  with_judged number row None outcome accepted is_code is = is
  with_judged number row (Some code) outcome accepted is_code is =
      let same : ◌≡◌ {A = Option WordSet} (Some accepted.code) (Some code) =
      code_one value_meaning image cert.limits row (Some accepted.code) (Some code) accepted.is_code is_code in
      let code_same : accepted.code ≡ code = cc in
      each_moved_where (CaseAccepted row) (λ position c o. Asked number row c o) (λ position c o. judges number row c o)
      (λ position c o yes asked. asked yes) 0 (cases_in row code.list) outcome
      (subst (λ (set : WordSet). AllByRecursion (CaseAccepted row) (cases_in row set.list)) code_same
      (cases_each row (CaseAccepted row) accepted.code.list accepted.cases)) is

  row_judged : (number : ℕ) (row : Row Value) (outcome : Result ℕ (AtRow F)) → IsRowAccepted value_meaning machine image cert row
      → IsWalkedAt value_meaning image cert.limits (Ok 0) Asked number row outcome → IsWalkedAt value_meaning image cert.limits (Ok 0) judges number row outcome
  row_judged number row (Ok count) accepted is = (is.0, is.1, with_judged number row is.0 (Ok count) accepted is.1 is.2)
  row_judged number row (Err told) accepted is = ((is.0.0, is.0.1, with_judged number row is.0.0 (Err told.fault) accepted is.0.1 is.0.2), is.1)

  rows_judged : (outcome : Result ℕ (AtRow F)) → Accepted value_meaning machine image cert
      → AreWalked value_meaning image cert.limits (Ok 0) Asked cert.rows outcome → AreWalked value_meaning image cert.limits (Ok 0) judges cert.rows outcome
  rows_judged outcome accepted is = each_moved_where (IsRowAccepted value_meaning machine image cert)
      (λ n r o. IsWalkedAt value_meaning image cert.limits (Ok 0) Asked n r o) (λ n r o. IsWalkedAt value_meaning image cert.limits (Ok 0) judges n r o)
      row_judged 1 cert.rows outcome (recursion_from_All (IsRowAccepted value_meaning machine image cert) cert.rows accepted.rows) is

  -- what comes of the rows, as they are handed over
  pub handed_rows_judged : (limits : Limiting Value) (rows : List (Row Value)) (outcome : Result ℕ (AtRow F)) → limits ≡ stated.limits → rows ≡ stated.rows
      → Accepted value_meaning machine image cert
      → AreWalked value_meaning image limits (Ok 0) Asked rows outcome → AreWalked value_meaning image cert.limits (Ok 0) judges cert.rows outcome
  handed_rows_judged limits rows outcome same_limits same_rows accepted is = rows_judged outcome accepted
      (subst (λ (l : Limiting Value). AreWalked value_meaning image l (Ok 0) Asked cert.rows outcome) same_limits
      (subst (λ (rs : List (Row Value)). AreWalked value_meaning image limits (Ok 0) Asked rs outcome) same_rows is))
