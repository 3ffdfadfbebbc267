use Rattle.ags_certtext.proofs.WordLemmas.{Gathered}
use Rattle.ags_certtext.proofs.word_fields.read_words.Given as goal

abbrev pub invariant-loop-count : goal.invariant-loop-count
invariant-loop-count l = Gathered l.text l.words l.rest l.count
