use Rattle.ags_domain.proofs.AmongLaws.{TellsFrom}
use Rattle.ags_domain.proofs.inclusion.are_among.Given as goal

-- the words that aren't met yet, and those that aren't walked over, tell what all do
abbrev pub invariant-loop-word : goal.invariant-loop-word
invariant-loop-word l = TellsFrom l.inner l.outer l.met l.word-index
