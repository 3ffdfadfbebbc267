use Rattle.std.proofs.Common.{◌≡◌, drop}
use Rattle.ags_domain.specs.WordSet.{lists}
use Rattle.ags_domain.proofs.word_sets.WordSet.has.Given as goal

abbrev pub invariant-loop-listed : goal.invariant-loop-listed
invariant-loop-listed l = lists l.listed-items l.word ≡ lists (drop l.listed-index l.listed-items) l.word
