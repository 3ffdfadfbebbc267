use Rattle.ags_card.proofs.SymbolLemmas.{is_symbol-IsSymbol, IsSymbol-is_symbol}
use Rattle.ags_card.proofs.laws.symbols_are_capitals_and_digits.Goals as goal

pub returns : goal.returns
returns c = record { passes = is_symbol-IsSymbol; is_symbol = IsSymbol-is_symbol }
