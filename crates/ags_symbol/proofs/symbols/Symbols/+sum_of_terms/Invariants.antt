use Rattle.std.proofs.Common.{length}
use Rattle.ags_symbol.proofs.symbols.Symbols.+sum_of_terms.Given as goal

abbrev pub decreases-sum_of_terms : goal.decreases-sum_of_terms
decreases-sum_of_terms l = length l.terms.now
