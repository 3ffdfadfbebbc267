-- The map that holds the symbols, the list of them, and the pairs that both stand for.
use Rattle.std.specs.Prelude.{ℕ, List, nat_eq, All}
use Rattle.std.specs.Cmp.Lexicographic.{pointwise}
use Rattle.std.specs.HashMap.{HashMap}
use Rattle.indexmap.specs.IndexMap.{IsUnique}
use Rattle.ags_symbol.specs.declared.symbols.Defined.{Defined}
use Rattle.ags_symbol.specs.Symbol.{Entry, EachNameOnce, IsValue}

-- a pair of the map
abbrev pub entry_of : (List ℕ) × Defined → Entry
entry_of pair = record { name = pair.0; value = pair.1.value; card = pair.1.card }

-- no two keys of the map are one name, and each value is one that a symbol may have
pub record AreSymbols {S : Type 0} (by_name : HashMap (List ℕ) Defined S) : Type 0 where
  pub distinct : IsUnique (pointwise nat_eq) by_name
  pub values : All (λ pair. IsValue pair.1.value) by_name.entries

-- no two of the pairs are of one symbol, and each value is one that a symbol may have
pub record AreListed (symbols : List Entry) : Type 0 where
  pub once : EachNameOnce symbols
  pub values : All (λ entry. IsValue entry.value) symbols
