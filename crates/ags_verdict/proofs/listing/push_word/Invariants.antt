use Rattle.std.proofs.Common.{◌≡◌, ◌+◌, ◌≤◌, ◌*◌, ◌++◌, length, take}
use Rattle.ags_verdict.specs.RowCase.{flagged, indicators, with_word}
use Rattle.ags_verdict.proofs.listing.push_word.Given as goal

-- the cases with the indices so far stand after the others
abbrev pub invariant-loop-x : goal.invariant-loop-x
invariant-loop-x g l = (l.cases ≡ l.fn.cases ++ with_word l.word (flagged 0 (take l.x l.row.x)) (indicators l.row.v))
    × (length l.cases ≤ length l.fn.cases + 2 * l.x)
