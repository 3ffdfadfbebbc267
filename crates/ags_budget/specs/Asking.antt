-- What serves inside: what the cases are asked with, and what is asked of a covering row.
use Rattle.std.specs.Prelude.{ℕ, ◌+◌, ◌<◌, ◌≤◌, List, Option, Result}
use Rattle.ags_domain.specs.Value.{value_meaning}
use Rattle.ags_domain.specs.declared.values.Value.{Value}
use Rattle.ags_ports.specs.declared.machines.Machine.{Machine}
use Rattle.ags_row.specs.declared.rows.Row.{Row}
use Rattle.ags_safe.specs.Accepted.{IsCaseAccepted}
use Rattle.ags_verdict.specs.RowCase.{RowCase, case_in}
use Rattle.ags_certtype.specs.Cert.{Stated, certificate_of}
use Rattle.ags_times.specs.Budget.{bound_of}
use Rattle.ags_budget.specs.Timing.{IsCaseTimed}
use Rattle.ags_budget.specs.declared.answers.LateCase.{LateCase}

-- what comes of a case of the row with a number, where it is accepted
abbrev pub IsAsked : Machine → List (Option ℕ) → Stated → List ℕ → ℕ → Row Value → RowCase → Result ℕ LateCase → Type 0
IsAsked machine image cert bounds number row c outcome =
    IsCaseAccepted value_meaning (certificate_of cert) (case_in machine image cert.limits row c)
    → IsCaseTimed value_meaning (certificate_of cert) bounds number (case_in machine image cert.limits row c) outcome

-- the bounds, and a time before a bound
pub record Leaving : Type 0 where
  pub bounds : List ℕ
  pub time : ℕ
  pub bound : ℕ

-- after the time the bound leaves that of the row with a number
abbrev pub is_left : Leaving → ℕ → Type 0
is_left l number = l.time + bound_of l.bounds number ≤ l.bound

-- the bounds, and the least so far
pub record Lesser : Type 0 where
  pub bounds : List ℕ
  pub least : ℕ

-- the bound of the row with a number is a lesser one
abbrev pub is_lesser : Lesser → ℕ → Type 0
is_lesser l number = bound_of l.bounds number < l.least
