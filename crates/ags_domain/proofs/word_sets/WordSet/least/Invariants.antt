use Rattle.std.proofs.Common.{◌≡◌, drop}
use Rattle.ags_domain.specs.SetOf.{least_of, least_from}
use Rattle.ags_domain.proofs.word_sets.WordSet.least.Given as goal

abbrev pub invariant-loop-word : goal.invariant-loop-word
invariant-loop-word l = least_of l.words ≡ least_from l.least (drop l.word-index l.words)
