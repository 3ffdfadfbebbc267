use Rattle.ags_xref.proofs.NamingLemmas.{Walking}
use Rattle.ags_xref.proofs.gathering.gather_naming.Given as goal

abbrev pub invariant-loop-index : goal.invariant-loop-index
invariant-loop-index l = Walking l.source l.placed l.rows l.index l.naming.items
