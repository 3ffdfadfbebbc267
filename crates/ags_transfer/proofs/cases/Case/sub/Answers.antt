use Rattle.std.proofs.Common.{neg_ℤ}
use Rattle.ags_safe.specs.Posts.{grows_by}
use Rattle.ags_transfer.proofs.cases.Case.sub.Goals as goal

pub returns : goal.returns
returns g c = λ y. (
  c.cell-m.result,
  c.cell-m.ensures,
  (
    c.sub.result,
    rw (← c.a.ensures) c.sub.ensures,
    c.computed.ensures (grows_by g.D.Domain.meaning c.args.self.now neg_ℤ (g.D.Domain.meaning.ends c.cell-m.result)) c.shrinks.ensures,
  ),
)
