use Rattle.std.proofs.Common.{length}
use Rattle.ags_xref.proofs.gathering.+note_terms.Given as goal

abbrev pub decreases-note_terms : goal.decreases-note_terms
decreases-note_terms l = length l.terms.now
