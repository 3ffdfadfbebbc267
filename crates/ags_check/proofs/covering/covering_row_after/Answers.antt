use Rattle.std.proofs.Common.{subst}
use Rattle.ags_domain.specs.Value.{value_meaning}
use Rattle.ags_domain.specs.declared.values.Value.{Value}
use Rattle.ags_row.specs.Cover.{Covers}
use Rattle.ags_row.specs.Limit.{Limiting}
use Rattle.ags_check.specs.Finding.{IsFound}
use Rattle.ags_check.proofs.covering.covering_row_after.Goals as goal

pub returns : goal.returns
returns g c = subst
    (λ (limits : Limiting Value). IsFound (λ number target. Covers value_meaning target c.args.base.now c.args.post.now limits × g.S.Serving.serves c.args.serving.now number)
    c.args.cert.now.rows c.find_row_from-found.result) c.limits.ensures.limits c.find_row_from-found.ensures
