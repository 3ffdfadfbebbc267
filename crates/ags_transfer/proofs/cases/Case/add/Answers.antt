use Rattle.ags_safe.specs.Posts.{grows_by}
use Rattle.ags_transfer.proofs.cases.Case.add.Goals as goal

pub returns : goal.returns
returns g c = λ y. (
  c.cell-m.result,
  c.cell-m.ensures,
  (
    c.add.result,
    rw (← c.a.ensures) c.add.ensures,
    c.computed.ensures (grows_by g.D.Domain.meaning c.args.self.now (λ n. n) (g.D.Domain.meaning.ends c.cell-m.result)) c.grows.ensures,
  ),
)
