use Rattle.std.proofs.Common.{sym, nat_eq}
use Rattle.std.specs.Cmp.Lexicographic.{pointwise}
use Rattle.std.proofs.lemmas.Map.Entries.{All-lookup}
use Rattle.ags_symbol.specs.Symbol.{IsValue}
use Rattle.ags_symbol.proofs.SymbolLemmas.{found-entries}
use Rattle.ags_symbol.proofs.symbols.Symbols.get.Goals as goal

pub returns-clause-found : goal.returns-clause-found
returns-clause-found c = rw (c.copied.ensures, c.get.ensures.value, ← c.self.view_is) (sym (found-entries c.args.name.now c.self.inside.by_name.entries))

pub returns-clause-value : goal.returns-clause-value
returns-clause-value c = rw (c.copied.ensures, c.get.ensures.value) (All-lookup (λ d. IsValue d.value) (pointwise nat_eq c.args.name.now) c.self.inside.by_name.entries c.self.invariant.values)
