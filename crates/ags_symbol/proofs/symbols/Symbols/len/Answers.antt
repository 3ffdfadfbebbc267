use Rattle.std.proofs.lemmas.List.Elements.{All-map}
use Rattle.ags_symbol.specs.Symbol.{IsValue}
use Rattle.ags_symbol.specs.View.{entry_of}
use Rattle.ags_symbol.proofs.SymbolLemmas.{each_name_once}
use Rattle.ags_symbol.proofs.symbols.Symbols.len.Goals as goal

pub returns-clause-once : goal.returns-clause-once
returns-clause-once c = rw (← c.self.view_is) (each_name_once c.self.inside.by_name.entries c.self.invariant.distinct)

pub returns-clause-values : goal.returns-clause-values
returns-clause-values c = rw (← c.self.view_is) (All-map (λ entry. IsValue entry.value) entry_of c.self.inside.by_name.entries c.self.invariant.values)
