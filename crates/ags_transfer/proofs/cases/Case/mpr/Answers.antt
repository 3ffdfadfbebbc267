use Rattle.ags_safe.specs.Posts.{frees_q}
use Rattle.ags_transfer.proofs.cases.Case.mpr.Goals as goal

pub returns : goal.returns
returns g c = λ y. (
  c.cell-m.result,
  c.cell-m.ensures,
  (
    c.mul_round.result,
    rw (← c.a.ensures) c.mul_round.ensures,
    c.computed.ensures (frees_q g.D.Domain.meaning c.args.self.now) c.frees_q.ensures,
  ),
)
