use Rattle.std.proofs.Common.{rules}
use Rattle.ags_symbol.proofs.symbols.Symbols.term_value.Goals as goal

pub returns-then-term-clause-value : goal.returns-then-term-clause-value
returns-then-term-clause-value c = search rules
