use Rattle.std.proofs.Common.{◌≡◌, ◌+◌, ◌≤◌, take}
use Rattle.std.specs.Prelude.{Ok}
use Rattle.ags_verdict.specs.InOrder.{InOrder}
use Rattle.ags_verdict.proofs.walks.walk_cases.Given as goal

-- the cases so far have counted
abbrev pub invariant-loop-case : goal.invariant-loop-case
invariant-loop-case g l = InOrder (λ position c o. g.J.Judge.judges l.judge l.number l.row c o) 0 (take l.case-index l.cases) (Ok l.count)
    × (l.count ≡ l.case-index)
    × (l.steps ≤ l.fn.steps + l.case-index)
