use Rattle.std.proofs.Common.{arith}
use Rattle.ags_safe.specs.Posts.{unlinks}
use Rattle.ags_transfer.proofs.DecisionLemmas.{store_goes_on}
use Rattle.ags_transfer.proofs.cases.Case.adz.Goals as goal

pub returns : goal.returns
returns g c = λ y. store_goes_on c.args.e _ _ (omega (arith, c.if-e-ge-ERASABLE.false)) (
  c.cell-m.result,
  c.cell-m.ensures,
  (
    c.add.result,
    rw (← c.a.ensures) c.add.ensures,
    c.computed_and_cleared.ensures (unlinks g.D.Domain.meaning c.args.self.now) c.unlinks.ensures,
  ),
)
