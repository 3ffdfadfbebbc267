use Rattle.ags_safe.specs.Posts.{unlinks}
use Rattle.ags_transfer.proofs.cases.Case.dvp.Goals as goal

pub returns : goal.returns
returns g c = λ y. (
  c.cell-m.result,
  c.cell-m.ensures,
  (
    c.quotient.result,
    rw (← c.a.ensures) c.quotient.ensures,
    c.computed.ensures (unlinks g.D.Domain.meaning c.args.self.now) c.unlinks.ensures,
  ),
)
