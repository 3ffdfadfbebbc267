use Rattle.std.proofs.Common.{ℕ, ◌<◌, get_or}
use Rattle.std.specs.Prelude.{IfSome, None}
use Rattle.ags_domain.specs.Domain.{IsWithin}
use Rattle.ags_domain.specs.Value.{value_meaning}
use Rattle.ags_row.specs.Limit.{cell_limit}
use Rattle.ags_certtype.proofs.checks.are_firsts_within.Given as goal

-- what is stated so far is within the limits
abbrev pub invariant-loop-address : goal.invariant-loop-address
invariant-loop-address l = (address : ℕ) → address < l.address
    → IfSome (get_or l.init address None) (λ value. IsWithin value_meaning value (cell_limit l.limits address))
