use Rattle.std.proofs.Common.{rules}
use Rattle.ags_symbol.proofs.symbols.Symbols.value_of.Goals as goal

pub returns : goal.returns
returns c = search rules
