use Rattle.std.proofs.Common.{take}
use Rattle.std.specs.Prelude.{All}
use Rattle.ags_domain.specs.Domain.{IsWithin}
use Rattle.ags_row.specs.Cover.{post_value}
use Rattle.ags_row.proofs.coverage.covers_cells.Given as goal

-- the cells so far are covered
abbrev pub invariant-loop-cell : goal.invariant-loop-cell
invariant-loop-cell g l =
    All (λ at. IsWithin g.D.Domain.meaning (post_value l.base l.limits l.post at.address) at.value) (take l.cell-index l.cells)
