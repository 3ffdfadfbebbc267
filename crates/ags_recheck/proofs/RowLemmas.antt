-- What is kept of a row, by its code.
use Rattle.std.proofs.Common.{◌≡◌, ℕ, ◌+◌, ◌≤◌, true, false, refl, sym, ap, subst, ◌∙◌, arith, List, length}
use Rattle.std.specs.Prelude.{Option, Some, None, Result, Err, IfOk, Any, ◌↔◌}
use Rattle.ags_domain.specs.Value.{value_meaning}
use Rattle.ags_domain.specs.declared.values.Value.{Value}
use Rattle.ags_domain.specs.declared.word_sets.WordSet.{WordSet}
use Rattle.ags_ports.specs.declared.machines.Machine.{Machine}
use Rattle.ags_row.specs.Limit.{Limiting}
use Rattle.ags_row.specs.declared.rows.Row.{Row}
use Rattle.ags_safe.specs.Case.{IsCode}
use Rattle.ags_verdict.specs.Fault.{IsCaseJudged}
use Rattle.ags_verdict.specs.InOrder.{InOrder}
use Rattle.ags_verdict.specs.Locality.{CaseGoesTo}
use Rattle.ags_verdict.specs.RowCase.{RowCase, cases_in, case_in}
use Rattle.ags_verdict.specs.declared.verdicts.RowFault.{RowFault}
use Rattle.ags_verdict.specs.declared.verdicts.RowFault.TheVariants.{CodeUnknown}
use Rattle.ags_verdict.specs.Counting.{HasCases, number_with}
use Rattle.ags_certtype.specs.Cert.{Stated, certificate_of}
use Rattle.ags_recheck.specs.Locations.{has_location}
use Rattle.ags_recheck.specs.Kept.{IsRowKept}
use Rattle.ags_recheck.proofs.EditLemmas.{true_false}

some_set : (set other : WordSet) → ◌≡◌ {A = Option WordSet} (Some set) (Some other) → set ≡ other
some_set set other same = cc

none_some : (set : WordSet) → ◌≡◌ {A = Option WordSet} None (Some set) → ⊥
none_some set same = cc

module _ (machine : Machine) (image : List (Option ℕ)) (stated : Stated) (row : Row Value)
    (one : (i : List (Option ℕ)) (l : Limiting Value) (r : Row Value) (left right : Option WordSet)
    → IsCode value_meaning i l r left → IsCode value_meaning i l r right → left ≡ right) where
  same_code : (left right : Option WordSet) → IsCode value_meaning image stated.limits row left → IsCode value_meaning image stated.limits row right → left ≡ right
  same_code = one image stated.limits row

  -- with a code
  module _ (set : WordSet) (is_code : IsCode value_meaning image stated.limits row (Some set)) (cases : List RowCase) (are : cases ≡ cases_in row set.list) where
    pub row_kept : (outcome : Result ℕ (RowFault Value)) (locations : List ℕ)
        → InOrder (λ position c o. IsCaseJudged value_meaning (certificate_of stated) (case_in machine image stated.limits row c) o) 0 cases outcome
        → ((location : ℕ) → (has_location locations location ≡ true)
        ↔ Any (λ c. CaseGoesTo value_meaning machine image stated.limits (case_in machine image stated.limits row c) location) cases)
        → IfOk outcome (λ count. count ≤ 256) → IsRowKept machine image stated row outcome locations
    row_kept outcome locations judged noted few = record {
      judged = (
        Some set,
        is_code,
        subst (λ (cs : List RowCase). InOrder (λ position c o. IsCaseJudged value_meaning (certificate_of stated) (case_in machine image stated.limits row c) o) 0 cs outcome)
            are judged,
      );
      noted = λ location. (
        λ has. (
          set,
          is_code,
          subst (λ (cs : List RowCase). Any (λ c. CaseGoesTo value_meaning machine image stated.limits (case_in machine image stated.limits row c) location) cs)
              are ((noted location).0 has),
        ),
        λ goes. (noted location).1
            (subst (λ (cs : List RowCase). Any (λ c. CaseGoesTo value_meaning machine image stated.limits (case_in machine image stated.limits row c) location) cs)
            (ap (λ (s : WordSet). cases_in row s.list) (some_set goes.0 set (same_code (Some goes.0) (Some set) goes.1 is_code)) ∙ sym are) goes.2),
      );
      few = few;
    }

    pub steps_of_code : (old new : ℕ) → new ≡ old + length cases → (number : ℕ) → HasCases value_meaning image stated.limits row number → new ≤ old + number
    steps_of_code old new is number has =
        let same : number ≡ length cases = has.2
        ∙ ap (number_with value_meaning image stated.limits row) (same_code has.0 (Some set) has.1 is_code)
        ∙ ap (λ (cs : List RowCase). length cs) (sym are) in
        omega (arith, is, same)

  -- without one
  pub row_kept_none : IsCode value_meaning image stated.limits row None → (locations : List ℕ) → ((location : ℕ) → has_location locations location ≡ false)
      → IsRowKept machine image stated row (Err CodeUnknown) locations
  row_kept_none is_code locations empty = record {
    judged = (None, is_code, refl);
    noted = λ location. (
      λ has. absurd (true_false (sym has ∙ empty location)),
      λ goes. absurd (none_some goes.0 (same_code None (Some goes.0) is_code goes.1)),
    );
    few = tt;
  }
