use Rattle.std.proofs.Common.{refl}
use Rattle.ags_certread.proofs.gatherer.Gatherer.close.Goals as goal

pub returns : goal.returns
returns c = rw c.in-Some.is (
  c.row_of.result,
  rw (c.in_ok-cells.ensures.items, c.as_slice.ensures.value) at c.row_of.ensures,
  rw (c.in_ok-push.ensures.items, c.clear.ensures.items) refl,
)
