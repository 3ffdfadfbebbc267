use Rattle.std.proofs.Common.{◌≡◌, map, take}
use Rattle.ags_symbol.specs.View.{entry_of}
use Rattle.ags_symbol.proofs.symbols.Symbols.into_list.Given as goal

abbrev pub invariant-loop-position : goal.invariant-loop-position
invariant-loop-position l = map entry_of l.entries.items ≡ take l.position l.self
