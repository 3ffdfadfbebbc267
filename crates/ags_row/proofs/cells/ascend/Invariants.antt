use Rattle.std.proofs.Common.{◌≡◌, ◌≤◌, drop}
use Rattle.ags_row.specs.Cell.{cells_ascend}
use Rattle.ags_row.proofs.cells.ascend.Given as goal

-- the cells that are left decide
abbrev pub invariant-loop-cell : goal.invariant-loop-cell
invariant-loop-cell g l = (cells_ascend 0 l.cells ≡ cells_ascend l.from (drop l.cell-index l.cells)) × (l.from ≤ 2048)
