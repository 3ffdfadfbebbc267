use Rattle.std.proofs.Common.{length}
use Rattle.ags_symbol.proofs.symbols.Symbols.+split_terms.Given as goal

abbrev pub decreases-split_terms : goal.decreases-split_terms
decreases-split_terms l = length l.terms.now
