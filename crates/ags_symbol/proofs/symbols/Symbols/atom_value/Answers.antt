use Rattle.std.proofs.Common.{rules}
use Rattle.ags_symbol.proofs.symbols.Symbols.atom_value.Goals as goal

pub returns-in-Here-clause-value : goal.returns-in-Here-clause-value
returns-in-Here-clause-value c = search rules

pub returns-in-Symbol-clause-value : goal.returns-in-Symbol-clause-value
returns-in-Symbol-clause-value c = search rules
