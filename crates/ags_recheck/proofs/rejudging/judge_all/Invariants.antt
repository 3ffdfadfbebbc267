use Rattle.std.proofs.Common.{◌≡◌, ℕ, ◌+◌, ◌<◌, ◌≤◌, length, get_or, take}
use Rattle.ags_domain.specs.Value.{value_meaning}
use Rattle.ags_domain.specs.declared.values.Value.{Value}
use Rattle.ags_row.specs.declared.rows.Row.{Row}
use Rattle.ags_verdict.specs.Counting.{HaveCases}
use Rattle.ags_recheck.specs.Kept.{IsItemKept}
use Rattle.ags_recheck.specs.declared.items.Item.{Item}
use Rattle.ags_recheck.proofs.rejudging.judge_all.Given as goal

-- the items so far are kept, and so many steps were taken
abbrev pub invariant-loop-position : goal.invariant-loop-position
invariant-loop-position g l = (length l.items ≡ length l.cert.rows)
    × ((position : ℕ) (row : Row Value) (item : Item) → position < l.position → position < length l.cert.rows → get_or l.cert.rows position row ≡ row
    → get_or l.items position item ≡ item → IsItemKept l.machine l.image l.cert row item)
    × ((cases : ℕ) → HaveCases value_meaning l.image l.cert.limits (take l.position l.cert.rows) cases → l.steps ≤ l.fn.steps + cases)
