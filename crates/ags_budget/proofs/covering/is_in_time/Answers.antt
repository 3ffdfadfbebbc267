use Rattle.std.proofs.Common.{ℕ, ◌+◌, ◌≤◌}
use Rattle.ags_domain.specs.Value.{value_meaning}
use Rattle.ags_certtype.specs.Cert.{certificate_of}
use Rattle.ags_check.specs.Finding.{IsCover}
use Rattle.ags_times.specs.Budget.{bound_of}
use Rattle.ags_check.proofs.FoundLemmas.{found_exactly}
use Rattle.ags_budget.proofs.covering.is_in_time.Goals as goal

pub returns : goal.returns
returns c =
    let both = found_exactly
    (IsCover value_meaning (certificate_of c.args.cert.now) (λ (n : ℕ). c.args.time + bound_of c.args.budget.now n ≤ c.args.bound) c.args.base.now c.args.post.now)
    c.args.cert.now.rows c.covering_row.result c.covering_row.ensures in
    (λ yes. both.0 (rw (← c.is_some.ensures) yes), λ some. rw c.is_some.ensures (both.1 some))
