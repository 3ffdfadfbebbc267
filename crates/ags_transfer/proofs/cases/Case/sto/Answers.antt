use Rattle.std.proofs.Common.{arith}
use Rattle.ags_safe.specs.Told.{These}
use Rattle.ags_safe.specs.Linked.{link_to}
use Rattle.ags_safe.specs.Line.{moves_on}
use Rattle.ags_transfer.proofs.DecisionLemmas.{store_goes_on}
use Rattle.ags_transfer.proofs.cases.Case.sto.Goals as goal

pub returns : goal.returns
returns g c = λ y. store_goes_on c.args.e _ _ (omega (arith, c.if-e-ge-ERASABLE.false))
    (c.stored.ensures (record (moves_on c.args.self.now) { link = link_to c.args.e }) (These c.args.self.now.row.a) c.a.ensures c.links_to.ensures)
