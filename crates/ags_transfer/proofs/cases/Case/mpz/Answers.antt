use Rattle.std.proofs.Common.{arith, rules}
use Rattle.ags_safe.specs.Posts.{frees_q}
use Rattle.ags_transfer.proofs.DecisionLemmas.{store_goes_on}
use Rattle.ags_transfer.proofs.cases.Case.mpz.Goals as goal

pub returns : goal.returns
returns g c = λ y. store_goes_on c.args.e _ _ (omega (arith, c.if-e-ge-ERASABLE.false)) (
  c.cell-m.result,
  c.cell-m.ensures,
  (
    c.mul_round.result,
    rw (← c.a.ensures) c.mul_round.ensures,
    c.computed_and_cleared.ensures (frees_q g.D.Domain.meaning c.args.self.now) c.frees_q.ensures,
  ),
)

pub returns-then-e-ge-ERASABLE : goal.returns-then-e-ge-ERASABLE
returns-then-e-ge-ERASABLE g c = search rules
