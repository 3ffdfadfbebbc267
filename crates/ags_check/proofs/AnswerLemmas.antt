-- Each certificate has a verdict. Behind the law of the same name is
--     some_verdict    the verdict of a certificate
use Rattle.std.proofs.Common.{ℕ, zero, suc, ◌+◌, ◌<◌, ◌≤◌, refl, sym, subst, ◌⊎◌, inl, inr, ⊎_elim, arith, List, [], ◌∷◌, length}
use Rattle.std.specs.Prelude.{Option, Some, None, IfSome, Result, Ok, Err, unwrap_or}
use Rattle.std.specs.List.{AllByRecursion}
use Rattle.std.proofs.lemmas.Bool.{cases_eq}
use Rattle.ags_image.specs.Image.{IsImage, entry_at}
use Rattle.ags_ports.specs.declared.machines.Machine.{Machine}
use Rattle.ags_ports.specs.Machine.{IsMachine}
use Rattle.ags_domain.specs.ListLaws.{lists_word}
use Rattle.ags_domain.specs.Value.{value_meaning}
use Rattle.ags_domain.specs.declared.word_sets.WordSet.{WordSet}
use Rattle.ags_domain.specs.declared.values.Value.{Value}
use Rattle.ags_row.specs.Limit.{cell_limit}
use Rattle.ags_row.specs.declared.posts.Post.{Post}
use Rattle.ags_row.specs.declared.rows.Row.{Row}
use Rattle.ags_safe.specs.Case.{Case, IsCode}
use Rattle.ags_safe.specs.Posts.{Outcome, IsPostsOfCase}
use Rattle.ags_safe.specs.declared.answers.PostPair.{PostPair}
use Rattle.ags_safe.specs.Certificate.{Certificate}
use Rattle.ags_safe.specs.Accepted.{IsFirstHeld, IsCovered}
use Rattle.ags_safe.proofs.DecisionLemmas.{is_covered, start_is_held, first_held}
use Rattle.ags_verdict.specs.InOrder.{InOrder}
use Rattle.ags_verdict.specs.RowCase.{RowCase, cases_in, case_in}
use Rattle.ags_verdict.specs.Fault.{refusal_of, IsUncovered, IsCaseJudged, IsRowJudged, IsRowJudgedAt}
use Rattle.ags_verdict.specs.Verdict.{AreHeldBelow, IsInitRefused, IsStartHeld, AreRowsJudged, IsVerdict}
use Rattle.ags_verdict.specs.declared.verdicts.RowFault.{RowFault}
use Rattle.ags_verdict.specs.declared.verdicts.RowFault.TheVariants as fault
use Rattle.ags_verdict.specs.declared.verdicts.Refusal.{Refusal}
use Rattle.ags_verdict.specs.declared.verdicts.Refusal.TheVariants.{InitRange, StartUncovered}
use Rattle.ags_verdict.specs.declared.verdicts.Verdict.{Verdict}
use Rattle.ags_verdict.specs.declared.verdicts.Verdict.TheVariants.{Certified, Refused}
use Rattle.ags_verdict.proofs.EachLemmas.{each_of}
use Rattle.ags_verdict.proofs.CaseLemmas.{cases_each}
use Rattle.ags_check.proofs.PostsLemmas.{some_posts}
use Rattle.ags_check.proofs.CodeLemmas.{some_code}

-- ---- things that are judged in order

module _ {X F : Type 0} (judged : ℕ → X → Result ℕ F → Type 0) where
  -- something comes of it, at each position
  abbrev IsJudged : X → Type 0
  IsJudged x = (position : ℕ) → (result : Result ℕ F) × judged position x result

  abbrev HasSum : ℕ → List X → Type 0
  HasSum position xs = (result : Result ℕ F) × InOrder judged position xs result

  summed : (position : ℕ) (x : X) (xs : List X) → (result : Result ℕ F) × judged position x result → HasSum (position + 1) xs → HasSum position (x ∷ xs)
  summed position x xs (Err told, fails) later = (Err told, inl fails)
  summed position x xs (Ok one, is) (Err told, fails) = (Err told, inr (one, is, fails))
  summed position x xs (Ok one, is) (Ok rest, are) = (Ok (one + rest), (one, rest, is, are, refl))

  in_order : (position : ℕ) (xs : List X) → AllByRecursion IsJudged xs → HasSum position xs
  in_order position [] each = (Ok 0, refl)
  in_order position (x ∷ xs) each = summed position x xs (each.0 position) (in_order (position + 1) xs each.1)

module _ (machine : Machine) (image : List (Option ℕ)) (cert : Certificate Value) (is_machine : IsMachine machine) (is_image : IsImage image) where
  -- ---- a case

  covered : (row : Row Value) (post : Option (Post Value)) → Dec (IfSome post (IsCovered value_meaning cert row))
  covered row None = yes tt
  covered row (Some post) = is_covered value_meaning cert row post

  uncovered : (row : Row Value) (post : Option (Post Value)) → ¬ IfSome post (IsCovered value_meaning cert row)
      → (next : ℕ) × IsUncovered value_meaning cert row post next
  uncovered row None out = absurd (out tt)
  uncovered row (Some post) out = (post.next, (out, refl))

  abbrev HasCaseResult : Case Value → Type 0
  HasCaseResult c = (result : Result ℕ (RowFault Value)) × IsCaseJudged value_meaning cert c result

  pair_judged : (c : Case Value) (pair : PostPair Value) → IsPostsOfCase value_meaning c (Ok pair)
      → Dec (IfSome pair.first (IsCovered value_meaning cert c.row)) → Dec (IfSome pair.second (IsCovered value_meaning cert c.row)) → HasCaseResult c
  pair_judged c pair posts (yes first) (yes second) = (Ok 1, ((pair, posts, first, second), refl))
  pair_judged c pair posts (yes first) (no out) =
      let next = uncovered c.row pair.second out in
      (Err (fault.NotCovered c.word c.index c.indicator next.0), (Ok pair, posts, (next.0, inr (first, next.1), refl)))
  pair_judged c pair posts (no out) second =
      let next = uncovered c.row pair.first out in
      (Err (fault.NotCovered c.word c.index c.indicator next.0), (Ok pair, posts, (next.0, inl next.1, refl)))

  case_judged : (c : Case Value) → (outcome : Outcome Value) × IsPostsOfCase value_meaning c outcome → HasCaseResult c
  case_judged c (Err stop, posts) = (Err (fault.Stops c.word stop), (Err stop, posts, refl))
  case_judged c (Ok pair, posts) = pair_judged c pair posts (covered c.row pair.first) (covered c.row pair.second)

  -- ---- a row

  abbrev IsJudgedIn : Row Value → ℕ → RowCase → Result ℕ (RowFault Value) → Type 0
  IsJudgedIn row position c result = IsCaseJudged value_meaning cert (case_in machine image cert.limits row c) result

  row_by : (row : Row Value) (code : Option WordSet) → IsCode value_meaning image cert.limits row code
      → (result : Result ℕ (RowFault Value)) × IsRowJudged value_meaning cert machine image row result
  row_by row None is = (Err fault.CodeUnknown, (None, is, refl))
  row_by row (Some code) is =
      let sum = in_order (IsJudgedIn row) 0 (cases_in row code.list)
      (cases_each row (IsJudged (IsJudgedIn row)) code.list
      (λ word index indicator listed index_set may position.
      let c = case_in machine image cert.limits row (record { word = word; index = index; indicator = indicator }) in
      case_judged c (some_posts c is_machine is_image (lists_word 0 code.list word code.ascending listed)))) in
      (sum.0, (Some code, is, sum.1))

  numbered : (number : ℕ) (row : Row Value) → (result : Result ℕ (RowFault Value)) × IsRowJudged value_meaning cert machine image row result
      → (result : Result ℕ (Refusal Value)) × IsRowJudgedAt value_meaning cert machine image number row result
  numbered number row (Ok count, is) = (Ok count, is)
  numbered number row (Err found, is) = (Err (refusal_of number found), (found, is, refl))

  row_judged : (row : Row Value) → IsJudged (IsRowJudgedAt value_meaning cert machine image) row
  row_judged row number =
      let code = some_code image cert.limits row is_image in
      numbered number row (row_by row code.0 code.1)

  some_rows : (result : Result ℕ (Refusal Value)) × AreRowsJudged value_meaning machine image cert result
  some_rows = in_order (IsRowJudgedAt value_meaning cert machine image) 1 cert.rows
      (each_of (IsJudged (IsRowJudgedAt value_meaning cert machine image)) row_judged cert.rows)

  -- ---- the first words

  abbrev IsHeldBelowOr : ℕ → Type 0
  IsHeldBelowOr bound = AreHeldBelow value_meaning machine image cert bound
      ⊎ ((told : Refusal Value) × IsInitRefused value_meaning machine image cert told)

  one_more : (bound : ℕ) → bound < 2048 → IsHeldBelowOr bound
      → Dec (IsFirstHeld value_meaning (cell_limit cert.limits bound) (entry_at image bound) (cert.init bound)) → IsHeldBelowOr (suc bound)
  one_more bound below (inr told) d = inr told
  one_more bound below (inl all) (yes held) = inl (λ address under. ⊎_elim
      (λ same. subst (λ (n : ℕ). IsFirstHeld value_meaning (cell_limit cert.limits n) (entry_at image n) (cert.init n)) (sym same) held)
      (λ apart. all address (omega (arith, apart))) (cases_eq address bound))
  one_more bound below (inl all) (no out) = inr (
    InitRange bound (unwrap_or (entry_at image bound) 0),
    record { address = bound; erasable = below; first = all; fails = out; is = refl },
  )

  first_words : (bound : ℕ) → bound ≤ 2048 → IsHeldBelowOr bound
  first_words zero is = inl (λ address below. absurd (omega arith))
  first_words (suc bound) is = one_more bound (omega arith) (first_words bound (omega arith))
      (first_held value_meaning (cell_limit cert.limits bound) (entry_at image bound) (cert.init bound))

  -- ---- the verdict

  verdict_by : IsHeldBelowOr 2048 → Dec (IsStartHeld value_meaning machine image cert)
      → (result : Result ℕ (Refusal Value)) × AreRowsJudged value_meaning machine image cert result
      → (verdict : Verdict Value) × IsVerdict value_meaning machine image cert verdict
  verdict_by (inr (told, is)) start rows = (Refused told, inl is)
  verdict_by (inl all) (no none) rows = (Refused StartUncovered, inr (inl (record { first_words = all; fails = none; is = refl })))
  verdict_by (inl all) (yes held) (Err told, is) = (Refused told, inr (inr (record { first_words = all; start = held; rows = is })))
  verdict_by (inl all) (yes held) (Ok cases, is) =
      (Certified (length cert.rows) cases, (record { first_words = all; start = held; rows = is }, refl))

  pub some_verdict : (verdict : Verdict Value) × IsVerdict value_meaning machine image cert verdict
  some_verdict = verdict_by (first_words 2048 (omega arith)) (start_is_held value_meaning image cert) some_rows
