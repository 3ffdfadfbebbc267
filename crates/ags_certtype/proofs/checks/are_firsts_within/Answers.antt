use Rattle.std.proofs.Common.{ℕ, get_or}
use Rattle.std.specs.Prelude.{IfSome, None}
use Rattle.ags_domain.specs.Domain.{IsWithin}
use Rattle.ags_domain.specs.Value.{value_meaning}
use Rattle.ags_row.specs.Limit.{cell_limit}
use Rattle.ags_certtype.proofs.CheckLemmas.{one_further}
use Rattle.ags_certtype.proofs.checks.are_firsts_within.Goals as goal

pub loop-address-preserved : goal.loop-address-preserved
loop-address-preserved c = one_further
    (λ (address : ℕ). IfSome (get_or c.args.init.now address None) (λ value. IsWithin value_meaning value (cell_limit c.args.limits.now address)))
    c.loop-address.address c.loop-address.invariant (c.is_within_at.ensures.0 c.if-not-is_within_at.false)
