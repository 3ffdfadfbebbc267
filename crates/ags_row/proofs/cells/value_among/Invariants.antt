use Rattle.std.proofs.Common.{ℕ, ◌-◌, ◌<◌, ◌≤◌, length, get_or}
use Rattle.ags_row.specs.declared.ats.At.{At}
use Rattle.ags_row.proofs.cells.value_among.Given as goal

abbrev pub decreases-loop-low : goal.decreases-loop-low
decreases-loop-low g l = l.high - l.low

-- the cells below `low` stand below the address, and those from `high` on above it
abbrev pub invariant-loop-low : goal.invariant-loop-low
invariant-loop-low g l = record {
  inside : l.high ≤ length l.cells;
  below : (k : ℕ) (d : At g.row.D.Denot) → k < l.low → k < length l.cells → (get_or l.cells k d).address < l.address;
  above : (k : ℕ) (d : At g.row.D.Denot) → l.high ≤ k → k < length l.cells → l.address < (get_or l.cells k d).address;
}
