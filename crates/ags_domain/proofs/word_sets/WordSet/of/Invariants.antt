use Rattle.std.proofs.Common.{◌≡◌, ◌≤◌, ◌^◌, take, drop}
use Rattle.ags_domain.specs.WordSet.{ascends_from}
use Rattle.ags_domain.proofs.word_sets.WordSet.of.Given as goal

abbrev pub invariant-loop-word : goal.invariant-loop-word
invariant-loop-word l = (l.list ≡ take l.word-index l.words)
    × (ascends_from 0 l.words ≡ ascends_from l.from (drop l.word-index l.words))
    × (l.from ≤ 2 ^ 18)
