use Rattle.std.proofs.Common.{◌≡◌, map, None, refl, ap, ◌∙◌}
use Rattle.std.proofs.lemmas.List.{map-append}
use Rattle.ags_symbol.specs.Symbol.{found}
use Rattle.ags_symbol.specs.View.{entry_of}
use Rattle.ags_symbol.proofs.SymbolLemmas.{AreSymbols-more, entries-more, none_found}
use Rattle.ags_symbol.proofs.symbols.Symbols.push.Goals as goal

pub invariant_of-self-2 : goal.invariant_of-self-2
invariant_of-self-2 c =
    let old = c.self.inside.by_name in
    let new = c.insert.new.self in
    let none : found c.args.name (map entry_of old.entries) ≡ None = rw c.self.view_is c.requires.new in
    let more = entries-more old new c.args.name c.args.defined (none_found old new c.args.name none) c.in-Ok.ensures.entries in
    AreSymbols-more old new c.args.name c.args.defined c.self.invariant c.in-Ok.ensures.unique c.requires.value more

pub returns-clause-defined : goal.returns-clause-defined
returns-clause-defined c =
    let old = c.self.inside.by_name in
    let new = c.insert.new.self in
    let none : found c.args.name (map entry_of old.entries) ≡ None = rw c.self.view_is c.requires.new in
    let more = entries-more old new c.args.name c.args.defined (none_found old new c.args.name none) c.in-Ok.ensures.entries in
    ap (map entry_of) more ∙ map-append entry_of old.entries _ ∙ rw c.self.view_is refl
