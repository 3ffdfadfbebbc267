use Rattle.std.proofs.Common.{◌≡◌, ◌≤◌, ℕ, drop, true}
use Rattle.ags_domain.specs.WordSet.{lists, ascends_from}
use Rattle.ags_domain.proofs.word_sets.WordSet.next.Given as goal

abbrev pub invariant-loop-word : goal.invariant-loop-word
invariant-loop-word l = (ascends_from 0 (drop l.word-index l.word-items) ≡ true)
    × ((v : ℕ) → l.from ≤ v → lists l.word-items v ≡ lists (drop l.word-index l.word-items) v)
