use Rattle.std.proofs.Common.{rules}
use Rattle.ags_card.specs.Symbol.{is_symbol}
use Rattle.ags_card.proofs.names.is_symbol.Goals as goal

pub returns-then-not-is_empty : goal.returns-then-not-is_empty
unfolding is_symbol
returns-then-not-is_empty c = search rules
