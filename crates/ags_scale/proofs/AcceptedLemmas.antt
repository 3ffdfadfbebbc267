-- Scales are accepted just where the judge's walk counts each case.
use Rattle.std.proofs.Common.{◌≡◌, ℕ, ◌+◌, refl, ap, subst, List, length}
use Rattle.std.specs.Prelude.{Option, Some, Result, Ok, Err}
use Rattle.ags_domain.specs.Domain.{Meaning}
use Rattle.ags_domain.specs.MeaningLaws.{value_lawful}
use Rattle.ags_domain.specs.Value.{value_meaning}
use Rattle.ags_domain.specs.declared.values.Value.{Value}
use Rattle.ags_domain.specs.declared.word_sets.WordSet.{WordSet}
use Rattle.ags_ports.specs.declared.machines.Machine.{Machine}
use Rattle.ags_ports.specs.Machine.{IsMachine}
use Rattle.ags_row.specs.declared.rows.Row.{Row}
use Rattle.ags_safe.proofs.CodeLemmas.{code_one}
use Rattle.ags_safe.specs.Accepted.{IsRowAccepted, Accepted}
use Rattle.ags_safe.specs.Certificate.{Certificate}
use Rattle.ags_verdict.specs.RowCase.{RowCase, cases_in, case_in}
use Rattle.ags_verdict.proofs.CaseLemmas.{each_cases, cases_each}
use Rattle.ags_verdict.proofs.VerdictLemmas.{accepted_of, refused_of}
use Rattle.ags_verdict.specs.Walk.{IsWalkedWith, IsWalkedAt}
use Rattle.ags_verdict.specs.declared.walks.AtRow.{AtRow}
use Rattle.ags_tags.specs.Tag.{Scaling}
use Rattle.ags_scale.specs.Accepted.{IsRowTagged, AreScalesAccepted}
use Rattle.ags_scale.specs.Scaled.{AreRowsTagged, FailsFirst, IsScaled}
use Rattle.ags_scale.specs.Tagging.{KeepsRowTags, IsCaseTagged, IsStartTagged}
use Rattle.ags_scale.specs.declared.answers.TagFault.{TagFault}
use Rattle.ags_scale.specs.declared.answers.Scaled.{Scaled}
use Rattle.ags_scale.specs.declared.answers.Scaled.TheVariants.{Agree, Unsafe, StartMixed, Mixed, NotHeld}
use Rattle.ags_scale.proofs.OneLemmas.{one_rows}
use Rattle.ags_verdict.proofs.OrderedLemmas.{each_at, each_counted, counted_in_order, counted_at}

module _ {D : Type 0} (meaning : Meaning D) (machine : Machine) (image : List (Option ℕ)) (cert : Certificate D) (scales : Scaling) where
  abbrev Tagged : ℕ → Row D → RowCase → Result ℕ TagFault → Type 0
  Tagged number row c o = IsCaseTagged meaning cert scales number (case_in machine image cert.limits row c) o

  abbrev Keeps : ℕ → Row D → RowCase → Type 0
  Keeps number row c = KeepsRowTags meaning cert scales number (case_in machine image cert.limits row c)

  abbrev Walks : ℕ → Row D → Result ℕ (AtRow TagFault) → Type 0
  Walks number row o = IsWalkedAt meaning image cert.limits (Ok 0) Tagged number row o

  -- ---- a walk that counts tells that each case keeps its tags

  row_of_walk : (number : ℕ) (row : Row D) (count : ℕ) → IsRowAccepted meaning machine image cert row → Walks number row (Ok count)
      → IsRowTagged meaning machine image cert scales number row
  row_of_walk number row count row_is walked =
      let same = code_one meaning image cert.limits row walked.0 (Some row_is.code) walked.1 row_is.is_code in
      let counted = subst (λ (o : Option WordSet). IsWalkedWith meaning image cert.limits (Ok 0) Tagged number row o (Ok count)) same walked.2 in
      record {
        code = row_is.code;
        is_code = row_is.is_code;
        cases = each_cases row (Keeps number row) row_is.code.list
            (each_counted (λ position c o. Tagged number row c o) (Keeps number row) (λ position c one kept. kept.0) 0 (cases_in row row_is.code.list) count counted);
      }

  pub of_walk : (count : ℕ) → Accepted meaning machine image cert → IsStartTagged meaning cert scales image
      → AreRowsTagged meaning machine image cert scales (Ok count) → AreScalesAccepted meaning machine image cert scales
  of_walk count accepted start tagged = record {
    accepted = accepted;
    start = start;
    rows = λ position row stands.
        let walked = each_at Walks 1 cert.rows count position row stands.0 stands.1 tagged in
        let row_is : IsRowAccepted meaning machine image cert row =
        subst (λ (r : Row D). IsRowAccepted meaning machine image cert r) stands.1 (accepted.rows position row stands.0) in
        row_of_walk (position + 1) row walked.0 row_is walked.1;
  }

  -- ---- and where each case keeps its tags, the walk counts

  walk_of_row : (number : ℕ) (row : Row D) → IsRowTagged meaning machine image cert scales number row → (count : ℕ) × Walks number row (Ok count)
  walk_of_row number row tagged =
      let sum = counted_in_order (λ position c o. Tagged number row c o) (Keeps number row) (λ position c kept. (1, (kept, refl))) 0
      (cases_in row tagged.code.list)
      (cases_each row (Keeps number row) tagged.code.list tagged.cases) in
      (sum.0, (Some tagged.code, tagged.is_code, sum.1))

  pub to_walk : AreScalesAccepted meaning machine image cert scales → (count : ℕ) × AreRowsTagged meaning machine image cert scales (Ok count)
  to_walk are = counted_at Walks 1 cert.rows (λ position row inside stands. walk_of_row (position + 1) row (are.rows position row (inside, stands)))

-- ---- the answer

module _ (machine : Machine) (image : List (Option ℕ)) (cert : Certificate Value) (scales : Scaling) where
  pub of_agree : (rows cases : ℕ) → IsScaled machine image cert scales (Agree rows cases) → AreScalesAccepted value_meaning machine image cert scales
  of_agree rows cases is = of_walk value_meaning machine image cert scales is.2
      (accepted_of value_meaning machine image cert rows cases is.0) is.1 is.3

  not_failing : IsMachine machine → (row : ℕ) (fault : TagFault) → AreScalesAccepted value_meaning machine image cert scales
      → FailsFirst machine image cert scales row fault → ⊥
  not_failing machine_is row fault are fails =
      let walk = to_walk value_meaning machine image cert scales are in
      let same : ◌≡◌ {A = Result ℕ (AtRow TagFault)} (Ok walk.0) (Err (record { row = row; fault = fault })) =
      one_rows value_meaning cert scales machine image value_lawful machine_is (Ok walk.0) _ walk.1 fails.rows in
      cc

  abbrev IsAgree : Scaled → Type 0
  IsAgree answer = (cases : ℕ) × (answer ≡ Agree (length cert.rows) cases)

  pub to_agree : IsMachine machine → (answer : Scaled) → AreScalesAccepted value_meaning machine image cert scales
      → IsScaled machine image cert scales answer → IsAgree answer
  to_agree machine_is (Agree rows cases) are is = (cases, ap (λ (n : ℕ). Agree n cases) is.0.1)
  to_agree machine_is (Unsafe told) are is = absurd (refused_of value_meaning machine image cert value_lawful machine_is told is are.accepted)
  to_agree machine_is StartMixed are is = absurd (is.2 are.start)
  to_agree machine_is (Mixed row word x v left right) are is = absurd (not_failing machine_is row _ are is)
  to_agree machine_is (NotHeld row word x v next) are is = absurd (not_failing machine_is row _ are is)
