use Rattle.ags_certtext.proofs.FlagLemmas.{Marking}
use Rattle.ags_certtext.proofs.flags.read_indices.Given as goal

abbrev pub invariant-loop-index : goal.invariant-loop-index
invariant-loop-index l = Marking l.text l.flags l.rest l.index
