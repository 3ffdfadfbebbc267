use Rattle.std.proofs.Common.{arith}
use Rattle.ags_safe.specs.Posts.{loads}
use Rattle.ags_transfer.proofs.DecisionLemmas.{store_goes_on}
use Rattle.ags_transfer.proofs.cases.Case.clz.Goals as goal

pub returns : goal.returns
returns g c = λ y. store_goes_on c.args.e _ _ (omega (arith, c.if-e-ge-ERASABLE.false))
    (c.cleared.ensures (loads g.D.Domain.meaning c.args.self.now c.args.e) c.loads.ensures)
