-- Why a symbol isn't defined.
use Rattle.std.specs.Prelude.{◌≡◌, Option, Some}
use Rattle.ags_symbol.specs.declared.symbols.DefineError.{DefineError}
use Rattle.ags_symbol.specs.declared.symbols.DefineError.TheVariants.{Twice, NoMemory}
use Rattle.ags_symbol.specs.Symbol.{Entry}

-- an earlier card defines it, where it was not want of memory
abbrev pub IsTwice : Option Entry → DefineError → Type 0
IsTwice earlier (Twice first) = (entry : Entry) × (earlier ≡ Some entry) × (entry.card ≡ first)
IsTwice earlier NoMemory = Unit {0}
