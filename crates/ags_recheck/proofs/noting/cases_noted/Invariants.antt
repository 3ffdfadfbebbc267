use Rattle.std.proofs.Common.{◌≡◌, ℕ, ◌+◌, ◌≤◌, true, take}
use Rattle.std.specs.Prelude.{◌↔◌, IfOk}
use Rattle.ags_domain.specs.Value.{value_meaning}
use Rattle.ags_verdict.specs.Fault.{IsCaseJudged}
use Rattle.ags_verdict.specs.InOrder.{InOrder}
use Rattle.ags_verdict.specs.Locality.{CaseGoesTo}
use Rattle.ags_verdict.specs.RowCase.{RowCase, case_in}
use Rattle.ags_certtype.specs.Cert.{certificate_of}
use Rattle.ags_recheck.specs.Locations.{has_location}
use Rattle.ags_recheck.proofs.NotingLemmas.{AnyOfFirst}
use Rattle.ags_recheck.proofs.noting.cases_noted.Given as goal

-- what comes of the cases so far, and where their posts go
abbrev pub invariant-loop-case : goal.invariant-loop-case
invariant-loop-case g l = InOrder (λ position c o. IsCaseJudged value_meaning (certificate_of l.cert) (case_in l.machine l.image l.cert.limits l.row c) o) 0
    (take l.case-index l.cases) l.outcome
    × ((location : ℕ) → (has_location l.locations location ≡ true)
    ↔ AnyOfFirst (λ (c : RowCase). CaseGoesTo value_meaning l.machine l.image l.cert.limits (case_in l.machine l.image l.cert.limits l.row c) location)
    l.cases l.case-index)
    × IfOk l.outcome (λ count. count ≤ l.case-index)
    × (l.steps ≡ l.fn.steps + l.case-index)
