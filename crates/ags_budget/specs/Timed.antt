-- The answer to a budget.
use Rattle.std.specs.Prelude.{ℕ, List, length, Option, Result, Ok, Err}
use Rattle.ags_domain.specs.Domain.{Meaning}
use Rattle.ags_domain.specs.Value.{value_meaning}
use Rattle.ags_domain.specs.declared.values.Value.{Value}
use Rattle.ags_ports.specs.declared.machines.Machine.{Machine}
use Rattle.ags_safe.specs.Certificate.{Certificate}
use Rattle.ags_verdict.specs.RowCase.{case_in}
use Rattle.ags_verdict.specs.Verdict.{IsVerdict}
use Rattle.ags_verdict.specs.declared.verdicts.Verdict.TheVariants.{Certified, Refused}
use Rattle.ags_verdict.specs.Walk.{AreWalked}
use Rattle.ags_verdict.specs.declared.walks.AtRow.{AtRow}
use Rattle.ags_times.specs.Budget.{IsGreatest}
use Rattle.ags_budget.specs.Timing.{IsCaseTimed}
use Rattle.ags_budget.specs.declared.answers.LateCase.{LateCase}
use Rattle.ags_budget.specs.declared.answers.Timed.{Timed}
use Rattle.ags_budget.specs.declared.answers.Timed.TheVariants.{Within, Unsafe, Over}

-- what comes of the rows where each case is asked for its time
abbrev pub AreRowsTimed : {D : Type 0} → Meaning D → Machine → List (Option ℕ) → Certificate D → List ℕ → Result ℕ (AtRow LateCase) → Type 0
AreRowsTimed meaning machine image cert bounds outcome = AreWalked meaning image cert.limits (Ok 0)
    (λ number row c o. IsCaseTimed meaning cert bounds number (case_in machine image cert.limits row c) o) cert.rows outcome

module _ (machine : Machine) (image : List (Option ℕ)) (cert : Certificate Value) (bounds : List ℕ) where
  -- The certificate is accepted, and each case is in time; or it is refused; or it is accepted, and a case is late, the first in the order
  -- of the verdict.
  abbrev pub IsTimed : Timed → Type 0
  IsTimed (Within rows cases greatest) = IsVerdict value_meaning machine image cert (Certified rows cases)
      × (timed : ℕ) × AreRowsTimed value_meaning machine image cert bounds (Ok timed) × IsGreatest bounds greatest
  IsTimed (Unsafe told) = IsVerdict value_meaning machine image cert (Refused told)
  IsTimed (Over row word x v next needs bound) = (cases : ℕ) × IsVerdict value_meaning machine image cert (Certified (length cert.rows) cases)
      × AreRowsTimed value_meaning machine image cert bounds
      (Err (record { row = row; fault = record { word = word; x = x; v = v; next = next; needs = needs; bound = bound } }))
