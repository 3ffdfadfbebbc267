use Rattle.std.proofs.Common.{◌≡◌, ℕ, ◌+◌, ◌≤◌, ◌*◌, take}
use Rattle.std.specs.Prelude.{Ok}
use Rattle.ags_verdict.specs.Walk.{AreWalked}
use Rattle.ags_verdict.specs.Counting.{HaveCases}
use Rattle.ags_verdict.proofs.walks.walk_rows.Given as goal

-- the rows so far have counted
abbrev pub invariant-loop-row : goal.invariant-loop-row
invariant-loop-row g l = AreWalked g.D.Domain.meaning l.image l.limits g.J.Judge.unknown (λ n r c o. g.J.Judge.judges l.judge n r c o) (take l.row-index l.rows) (Ok l.count)
    × (l.number ≡ l.row-index)
    × (l.count ≤ 256 * l.row-index)
    × ((cases : ℕ) → HaveCases g.D.Domain.meaning l.image l.limits (take l.row-index l.rows) cases → l.steps ≤ l.fn.steps + cases)
