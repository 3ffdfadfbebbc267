use Rattle.std.proofs.Common.{◌≡◌, ◌≤◌, ◌*◌, length, take}
use Rattle.ags_verdict.specs.RowCase.{cases_in}
use Rattle.ags_verdict.proofs.listing.cases_of.Given as goal

-- the cases with the words so far
abbrev pub invariant-loop-word : goal.invariant-loop-word
invariant-loop-word g l = (l.cases ≡ cases_in l.row (take l.word-index l.words)) × (length l.cases ≤ 16 * l.word-index)
