use Rattle.std.proofs.Common.{◌≡◌, ℕ, ◌<◌, ◌≤◌, List, length, get_or}
use Rattle.ags_domain.specs.Value.{value_meaning}
use Rattle.ags_domain.specs.declared.values.Value.{Value}
use Rattle.ags_row.specs.declared.rows.Row.{Row}
use Rattle.ags_verdict.specs.Counting.{HasCases}
use Rattle.ags_recheck.specs.Kept.{IsItemKept, IsBeforeEdit}
use Rattle.ags_recheck.specs.declared.items.Item.{Item}
use Rattle.ags_recheck.proofs.StepLemmas.{Spent}
use Rattle.ags_recheck.proofs.rejudging.rejudge.Given as goal

-- the items so far are kept, and the others are as they were; and so many steps were taken
abbrev pub invariant-loop-position : goal.invariant-loop-position
invariant-loop-position g l = (length l.items ≡ length l.cert.rows)
    × ((position : ℕ) (row : Row Value) (item : Item) → position < l.position → position < length l.cert.rows → get_or l.cert.rows position row ≡ row
    → get_or l.items position item ≡ item → IsItemKept l.machine l.image l.cert row item)
    × ((position : ℕ) (d : Item) → l.position ≤ position → get_or l.items position d ≡ get_or l.fn.items position d)
    × ((before : List (Row Value)) (new : Row Value) (own : ℕ)
    → (is : IsBeforeEdit l.machine l.image l.cert l.edited l.one l.other before new l.fn.items)
    → (has : HasCases value_meaning l.image l.cert.limits new own)
    → Spent l.machine l.image l.cert l.edited l.one l.other before new l.fn.items is own has l.fn.steps l.position l.steps)
