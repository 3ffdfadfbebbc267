use Rattle.std.proofs.Common.{◌≡◌}
use Rattle.ags_domain.specs.Value.{value_meaning}
use Rattle.ags_certtype.specs.Cert.{certificate_of}
use Rattle.ags_check.specs.Finding.{IsCoveredBy}
use Rattle.ags_times.specs.Budget.{bound_of}
use Rattle.ags_budget.proofs.covering.least_bound.Given as goal

-- the row with the number covers the post
abbrev pub invariant-loop-other : goal.invariant-loop-other
invariant-loop-other l = IsCoveredBy value_meaning (certificate_of l.cert) (λ n. n ≡ l.number) l.base l.post

-- its bound is lesser each time
abbrev pub decreases-loop-other : goal.decreases-loop-other
decreases-loop-other l = bound_of l.budget l.number
