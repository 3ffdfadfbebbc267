use Rattle.std.proofs.Common.{sym, ◌∙◌}
use Rattle.ags_certtype.proofs.checks.are_cells_within.Goals as goal

pub returns-then-not-within : goal.returns-then-not-within
returns-then-not-within c = (
  λ h. absurd cc,
  λ all. sym c.if-not-within.true
      ∙ c.within.ensures.1 (rw (c.cell.ensures, c.cell-item.is) (all c.loop-cell.cell-index c.cell-item.result c.loop-cell-test.true)),
)
