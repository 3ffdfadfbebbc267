use Rattle.std.proofs.Common.{◌≡◌, drop}
use Rattle.ags_domain.specs.SetOf.{greatest_of, greatest_from}
use Rattle.ags_domain.proofs.word_sets.WordSet.greatest.Given as goal

abbrev pub invariant-loop-word : goal.invariant-loop-word
invariant-loop-word l = greatest_of l.words ≡ greatest_from l.greatest (drop l.word-index l.words)
