-- The verdict and what is accepted. Behind the laws are
--     verdict_one, certified_of, accepted_of, counted_of, refused_of, first_of
use Rattle.std.proofs.Common.{◌≡◌, ℕ, ◌+◌, ◌<◌, refl, sym, ap, subst, ◌∙◌, arith, List, [], ◌∷◌, length, inl, inr}
use Rattle.std.specs.Prelude.{Option, Some, None, IfSome, Result, Ok, Err}
use Rattle.std.proofs.lemmas.List.Elements.{All-from_recursion, recursion_from_All}
use Rattle.ags_domain.specs.Domain.{Meaning, IsMeaning}
use Rattle.ags_domain.specs.declared.word_sets.WordSet.{WordSet}
use Rattle.ags_ports.specs.declared.machines.Machine.{Machine}
use Rattle.ags_ports.specs.Machine.{IsMachine}
use Rattle.ags_row.specs.declared.posts.Post.{Post}
use Rattle.ags_row.specs.declared.rows.Row.{Row}
use Rattle.ags_safe.specs.Case.{Case, IsCode}
use Rattle.ags_safe.specs.Posts.{Outcome}
use Rattle.ags_safe.specs.declared.answers.PostPair.{PostPair}
use Rattle.ags_safe.proofs.CodeLemmas.{code_one}
use Rattle.ags_safe.proofs.OneAnswerLemmas.{one_answer}
use Rattle.ags_safe.specs.Certificate.{Certificate}
use Rattle.ags_safe.specs.Accepted.{IsCovered, IsCaseAccepted, IsRowAccepted, Accepted}
use Rattle.ags_verdict.specs.InOrder.{InOrder}
use Rattle.ags_verdict.specs.RowCase.{RowCase, cases_in, case_in}
use Rattle.ags_verdict.specs.Fault.{refusal_of, IsUncovered, IsFirstUncovered, IsFaultOfAnswer, IsCaseJudged, IsJudgedWith, IsRowJudged, IsRowJudgedAt}
use Rattle.ags_verdict.specs.Verdict.{IsInitRefused, IsJudgedByRows, IsVerdict}
use Rattle.ags_verdict.specs.Flat.{IsNumberOfCases, IsFirstInRow, IsFirstRow, IsFirstFailing}
use Rattle.ags_verdict.specs.declared.verdicts.RowFault.{RowFault}
use Rattle.ags_verdict.specs.declared.verdicts.RowFault.TheVariants.{CodeUnknown}
use Rattle.ags_verdict.specs.declared.verdicts.Refusal.{Refusal}
use Rattle.ags_verdict.specs.declared.verdicts.Verdict.{Verdict}
use Rattle.ags_verdict.specs.declared.verdicts.Verdict.TheVariants.{Certified, Refused}
use Rattle.ags_verdict.proofs.CaseLemmas.{cases_each, each_cases}
use Rattle.ags_verdict.proofs.InOrderLemmas.{each_in_order, in_order_each, counts_each, first_fault_of, in_order_one}

ok_err : {F : Type 0} (count : ℕ) (fault : F) → ◌≡◌ {A = Result ℕ F} (Ok count) (Err fault) → ⊥
ok_err count fault same = cc

ok_one : {F : Type 0} (left right : ℕ) → ◌≡◌ {A = Result ℕ F} (Ok left) (Ok right) → left ≡ right
ok_one left right same = cc

err_one : {F : Type 0} (left right : F) → ◌≡◌ {A = Result ℕ F} (Err left) (Err right) → left ≡ right
err_one left right same = cc

least_one : (left right : ℕ) → ¬ (left < right) → ¬ (right < left) → left ≡ right
least_one left right p r = omega (arith, p, r)

module _ {D : Type 0} (meaning : Meaning D) (machine : Machine) (image : List (Option ℕ)) (cert : Certificate D) where
  -- ---- what is certified is accepted

  abbrev CaseJudged : Row D → ℕ → RowCase → Result ℕ (RowFault D) → Type 0
  CaseJudged row position c = IsCaseJudged meaning cert (case_in machine image cert.limits row c)

  abbrev CaseAccepted : Row D → RowCase → Type 0
  CaseAccepted row c = IsCaseAccepted meaning cert (case_in machine image cert.limits row c)

  abbrev RowJudgedAt : ℕ → Row D → Result ℕ (Refusal D) → Type 0
  RowJudgedAt = IsRowJudgedAt meaning cert machine image

  accepted_with : (row : Row D) (count : ℕ) (code : Option WordSet) → IsCode meaning image cert.limits row code
      → IsJudgedWith meaning cert machine image row code (Ok count) → IsRowAccepted meaning machine image cert row
  accepted_with row count None is_code judged = absurd cc
  accepted_with row count (Some code) is_code judged = record {
    code = code;
    is_code = is_code;
    cases = each_cases row (CaseAccepted row) code.list
        (each_in_order (CaseJudged row) (CaseAccepted row) (λ position c count is. is.0) 0 (cases_in row code.list) count judged);
  }

  pub accepted_of : (rows cases : ℕ) → IsVerdict meaning machine image cert (Certified rows cases) → Accepted meaning machine image cert
  accepted_of rows cases is = record {
    first_words = is.0.first_words;
    start = is.0.start;
    rows = All-from_recursion (IsRowAccepted meaning machine image cert) cert.rows
        (each_in_order RowJudgedAt (IsRowAccepted meaning machine image cert)
        (λ position row count judged. accepted_with row count judged.0 judged.1 judged.2) 1 cert.rows cases is.0.rows);
  }

  -- ---- what is accepted is certified

  judged_of : (row : Row D) → IsRowAccepted meaning machine image cert row → (count : ℕ) × IsRowJudged meaning cert machine image row (Ok count)
  judged_of row accepted =
      let cases = in_order_each (CaseJudged row) (CaseAccepted row) (λ position c is. (1, (is, refl))) 0 (cases_in row accepted.code.list)
      (cases_each row (CaseAccepted row) accepted.code.list accepted.cases) in
      (cases.0, (Some accepted.code, accepted.is_code, cases.1))

  pub certified_of : Accepted meaning machine image cert → (cases : ℕ) × IsVerdict meaning machine image cert (Certified (length cert.rows) cases)
  certified_of accepted =
      let rows = in_order_each RowJudgedAt (IsRowAccepted meaning machine image cert) (λ position row is. judged_of row is) 1 cert.rows
      (recursion_from_All (IsRowAccepted meaning machine image cert) cert.rows accepted.rows) in
      (rows.0, (record { first_words = accepted.first_words; start = accepted.start; rows = rows.1 }, refl))

  -- ---- the number of cases

  counted_with : (row : Row D) (count : ℕ) (code : Option WordSet) → IsCode meaning image cert.limits row code
      → IsJudgedWith meaning cert machine image row code (Ok count)
      → (found : WordSet) × IsCode meaning image cert.limits row (Some found) × (count ≡ length (cases_in row found.list))
  counted_with row count None is_code judged = absurd cc
  counted_with row count (Some code) is_code judged =
      (code, is_code, counts_each (CaseJudged row) (λ position c count is. is.1) 0 (cases_in row code.list) count judged)

  rows_counted : (position : ℕ) (rows : List (Row D)) (count : ℕ) → InOrder RowJudgedAt position rows (Ok count)
      → IsNumberOfCases meaning image cert.limits rows count
  rows_counted position [] count is = is
  rows_counted position (row ∷ rows) count is =
      let judged = is.2 in
      let row_is = counted_with row is.0 judged.0 judged.1 judged.2 in
      let first : is.0 ≡ length (cases_in row row_is.0.list) = row_is.2 in
      (row_is.0, is.1, row_is.1, rows_counted (position + 1) rows is.1 is.3, omega (arith, first, is.4))

  pub counted_of : (rows cases : ℕ) → IsVerdict meaning machine image cert (Certified rows cases)
      → (rows ≡ length cert.rows) × IsNumberOfCases meaning image cert.limits cert.rows cases
  counted_of rows cases is = (is.1, rows_counted 1 cert.rows cases is.0.rows)

  -- ---- what fails first

  first_in_row : (row : Row D) (code : Option WordSet) (told : RowFault D) → IsJudgedWith meaning cert machine image row code (Err told)
      → IsFirstInRow meaning machine image cert row code told
  first_in_row row None told is = err_one told CodeUnknown is
  first_in_row row (Some code) told is =
      let first = first_fault_of (CaseJudged row) (CaseAccepted row) (λ position c count judged. judged.0) 0 (cases_in row code.list) told is in
      record {
        before = first.before;
        fails = first.thing;
        behind = first.behind;
        splits = first.splits;
        accepted = All-from_recursion (CaseAccepted row) first.before first.passed;
        fault = first.is;
      }

  first_row_of : (told : Refusal D) → IsJudgedByRows meaning machine image cert (Err told) → IsFirstRow meaning machine image cert told
  first_row_of told is =
      let first = first_fault_of RowJudgedAt (IsRowAccepted meaning machine image cert)
      (λ position row count judged. accepted_with row count judged.0 judged.1 judged.2) 1 cert.rows told is.rows in
      let found = first.is in
      let judged = found.1 in
      record {
        first_words = is.first_words;
        start = is.start;
        before = first.before;
        fails = first.thing;
        behind = first.behind;
        splits = first.splits;
        accepted = All-from_recursion (IsRowAccepted meaning machine image cert) first.before first.passed;
        code = judged.0;
        is_code = judged.1;
        fault = found.0;
        first = first_in_row first.thing judged.0 found.0 judged.2;
        is = found.2;
      }

  pub first_of : (told : Refusal D) → IsVerdict meaning machine image cert (Refused told) → IsFirstFailing meaning machine image cert told
  first_of told (inl init) = inl init
  first_of told (inr (inl start)) = inr (inl start)
  first_of told (inr (inr rows)) = inr (inr (first_row_of told rows))

  -- ---- a case has one outcome

  not_uncovered : (row : Row D) (post : Option (Post D)) (next : ℕ) → IfSome post (IsCovered meaning cert row)
      → IsUncovered meaning cert row post next → ⊥
  not_uncovered row None next covered is = is
  not_uncovered row (Some post) next covered is = is.0 covered

  not_first_uncovered : (row : Row D) (pair : PostPair D) (next : ℕ) → IfSome pair.first (IsCovered meaning cert row)
      → IfSome pair.second (IsCovered meaning cert row) → IsFirstUncovered meaning cert row pair next → ⊥
  not_first_uncovered row pair next first second (inl is) = not_uncovered row pair.first next first is
  not_first_uncovered row pair next first second (inr is) = not_uncovered row pair.second next second is.1

  no_fault_of_answer : (c : Case D) (pair : PostPair D) (answer : Outcome D) (told : RowFault D) → ◌≡◌ {A = Outcome D} (Ok pair) answer
      → IfSome pair.first (IsCovered meaning cert c.row) → IfSome pair.second (IsCovered meaning cert c.row)
      → IsFaultOfAnswer meaning cert c answer told → ⊥
  no_fault_of_answer c pair (Err why) told same first second is = cc
  no_fault_of_answer c pair (Ok other) told same first second is =
      let one : pair ≡ other = cc in
      not_first_uncovered c.row pair is.0 first second (subst (λ (p : PostPair D). IsFirstUncovered meaning cert c.row p is.0) (sym one) is.1)

  uncovered_one : (row : Row D) (post : Option (Post D)) (left right : ℕ) → IsUncovered meaning cert row post left
      → IsUncovered meaning cert row post right → left ≡ right
  uncovered_one row None left right p r = absurd p
  uncovered_one row (Some post) left right p r = p.1 ∙ sym r.1

  first_uncovered_one : (row : Row D) (pair : PostPair D) (left right : ℕ) → IsFirstUncovered meaning cert row pair left
      → IsFirstUncovered meaning cert row pair right → left ≡ right
  first_uncovered_one row pair left right (inl p) (inl r) = uncovered_one row pair.first left right p r
  first_uncovered_one row pair left right (inl p) (inr r) = absurd (not_uncovered row pair.first left r.0 p)
  first_uncovered_one row pair left right (inr p) (inl r) = absurd (not_uncovered row pair.first right p.0 r)
  first_uncovered_one row pair left right (inr p) (inr r) = uncovered_one row pair.second left right p.1 r.1

  faults_of_answer_one : (c : Case D) (answer other : Outcome D) (left right : RowFault D) → answer ≡ other
      → IsFaultOfAnswer meaning cert c answer left → IsFaultOfAnswer meaning cert c other right → left ≡ right
  faults_of_answer_one c (Err why) (Err reason) left right same p r = let one : why ≡ reason = cc in cc
  faults_of_answer_one c (Err why) (Ok pair) left right same p r = absurd cc
  faults_of_answer_one c (Ok pair) (Err why) left right same p r = absurd cc
  faults_of_answer_one c (Ok pair) (Ok other) left right same p r =
      let one : pair ≡ other = cc in
      let next : p.0 ≡ r.0 = first_uncovered_one c.row pair p.0 r.0 p.1
      (subst (λ (q : PostPair D). IsFirstUncovered meaning cert c.row q r.0) (sym one) r.1) in
      let left_is = p.2 in
      let right_is = r.2 in
      cc

  module _ (lawful : IsMeaning D meaning) (machine_is : IsMachine machine) where
    case_one : (row : Row D) (position : ℕ) (c : RowCase) (left right : Result ℕ (RowFault D)) → CaseJudged row position c left
        → CaseJudged row position c right → left ≡ right
    case_one row position c (Ok left) (Ok right) p r = ap (λ (n : ℕ). Ok n) (p.1 ∙ sym r.1)
    case_one row position c (Ok left) (Err right) p r = absurd (no_fault_of_answer (case_in machine image cert.limits row c) p.0.0 r.0 right
        (one_answer meaning lawful (case_in machine image cert.limits row c) (Ok p.0.0) r.0 machine_is p.0.1 r.1) p.0.2 p.0.3 r.2)
    case_one row position c (Err left) (Ok right) p r = absurd (no_fault_of_answer (case_in machine image cert.limits row c) r.0.0 p.0 left
        (one_answer meaning lawful (case_in machine image cert.limits row c) (Ok r.0.0) p.0 machine_is r.0.1 p.1) r.0.2 r.0.3 p.2)
    case_one row position c (Err left) (Err right) p r = ap (λ (f : RowFault D). Err f)
        (faults_of_answer_one (case_in machine image cert.limits row c) p.0 r.0 left right
        (one_answer meaning lawful (case_in machine image cert.limits row c) p.0 r.0 machine_is p.1 r.1) p.2 r.2)

    -- ---- a row has one outcome

    with_one : (row : Row D) (code : Option WordSet) (left right : Result ℕ (RowFault D)) → IsJudgedWith meaning cert machine image row code left
        → IsJudgedWith meaning cert machine image row code right → left ≡ right
    with_one row None left right p r = p ∙ sym r
    with_one row (Some code) left right p r = in_order_one (CaseJudged row) (case_one row) 0 (cases_in row code.list) left right p r

    row_one : (row : Row D) (left right : Result ℕ (RowFault D)) → IsRowJudged meaning cert machine image row left
        → IsRowJudged meaning cert machine image row right → left ≡ right
    row_one row left right p r =
        let same : p.0 ≡ r.0 = code_one meaning image cert.limits row p.0 r.0 p.1 r.1 in
        with_one row p.0 left right p.2 (subst (λ (o : Option WordSet). IsJudgedWith meaning cert machine image row o right) (sym same) r.2)

    row_at_one : (position : ℕ) (row : Row D) (left right : Result ℕ (Refusal D)) → RowJudgedAt position row left → RowJudgedAt position row right
        → left ≡ right
    row_at_one position row (Ok left) (Ok right) p r = ap (λ (n : ℕ). Ok n) (ok_one left right (row_one row (Ok left) (Ok right) p r))
    row_at_one position row (Ok left) (Err right) p r = absurd (ok_err left r.0 (row_one row (Ok left) (Err r.0) p r.1))
    row_at_one position row (Err left) (Ok right) p r = absurd (ok_err right p.0 (row_one row (Ok right) (Err p.0) r p.1))
    row_at_one position row (Err left) (Err right) p r =
        let same : p.0 ≡ r.0 = err_one p.0 r.0 (row_one row (Err p.0) (Err r.0) p.1 r.1) in
        ap (λ (f : Refusal D). Err f) (p.2 ∙ (ap (λ (f : RowFault D). refusal_of position f) same ∙ sym r.2))

    rows_one : (left right : Result ℕ (Refusal D)) → InOrder RowJudgedAt 1 cert.rows left → InOrder RowJudgedAt 1 cert.rows right → left ≡ right
    rows_one left right p r = in_order_one RowJudgedAt row_at_one 1 cert.rows left right p r

    -- ---- a certificate has one verdict

    not_both_verdicts : (rows cases : ℕ) (told : Refusal D) → IsVerdict meaning machine image cert (Certified rows cases)
        → IsVerdict meaning machine image cert (Refused told) → ⊥
    not_both_verdicts rows cases told p (inl r) = r.fails (p.0.first_words r.address r.erasable)
    not_both_verdicts rows cases told p (inr (inl r)) = r.fails p.0.start
    not_both_verdicts rows cases told p (inr (inr r)) = ok_err cases told (rows_one (Ok cases) (Err told) p.0.rows r.rows)

    init_one : (left right : Refusal D) → IsInitRefused meaning machine image cert left → IsInitRefused meaning machine image cert right → left ≡ right
    init_one left right p r =
        let same : p.address ≡ r.address = least_one p.address r.address (λ below. p.fails (r.first p.address below))
        (λ below. r.fails (p.first r.address below)) in
        let left_is = p.is in
        let right_is = r.is in
        cc

    refusals_one : (left right : Refusal D) → IsVerdict meaning machine image cert (Refused left) → IsVerdict meaning machine image cert (Refused right)
        → left ≡ right
    refusals_one left right (inl p) (inl r) = init_one left right p r
    refusals_one left right (inl p) (inr (inl r)) = absurd (p.fails (r.first_words p.address p.erasable))
    refusals_one left right (inl p) (inr (inr r)) = absurd (p.fails (r.first_words p.address p.erasable))
    refusals_one left right (inr (inl p)) (inl r) = absurd (r.fails (p.first_words r.address r.erasable))
    refusals_one left right (inr (inl p)) (inr (inl r)) = p.is ∙ sym r.is
    refusals_one left right (inr (inl p)) (inr (inr r)) = absurd (p.fails r.start)
    refusals_one left right (inr (inr p)) (inl r) = absurd (r.fails (p.first_words r.address r.erasable))
    refusals_one left right (inr (inr p)) (inr (inl r)) = absurd (r.fails p.start)
    refusals_one left right (inr (inr p)) (inr (inr r)) = err_one left right (rows_one (Err left) (Err right) p.rows r.rows)

    pub verdict_one : (one other : Verdict D) → IsVerdict meaning machine image cert one → IsVerdict meaning machine image cert other → one ≡ other
    verdict_one (Certified rows cases) (Certified rows2 cases2) p r =
        let cases_same : cases ≡ cases2 = ok_one cases cases2 (rows_one (Ok cases) (Ok cases2) p.0.rows r.0.rows) in
        let rows_same : rows ≡ rows2 = p.1 ∙ sym r.1 in
        cc
    verdict_one (Certified rows cases) (Refused told) p r = absurd (not_both_verdicts rows cases told p r)
    verdict_one (Refused told) (Certified rows cases) p r = absurd (not_both_verdicts rows cases told r p)
    verdict_one (Refused left) (Refused right) p r = ap (λ (f : Refusal D). Refused f) (refusals_one left right p r)

    -- what is refused isn't accepted
    pub refused_of : (told : Refusal D) → IsVerdict meaning machine image cert (Refused told) → ¬ Accepted meaning machine image cert
    refused_of told is accepted = let certified = certified_of accepted in not_both_verdicts (length cert.rows) certified.0 told certified.1 is
