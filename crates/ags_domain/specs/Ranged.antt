-- The answers of ranges as those of values.
use Rattle.std.specs.Prelude.{◌≡◌, Result, Ok, Err}
use Rattle.ags_domain.specs.declared.operands.Operands.{Operands}
use Rattle.ags_domain.specs.declared.ranges.Range.{Range}
use Rattle.ags_domain.specs.declared.values.Value.{Value}
use Rattle.ags_domain.specs.declared.values.Value.TheVariants.{Range as ByEnds}

-- the same range, or the same operands
abbrev pub IsRangedAnswer : Result Range Operands → Result Value Operands → Type 0
IsRangedAnswer (Ok range) answer = answer ≡ Ok (ByEnds range)
IsRangedAnswer (Err o) answer = answer ≡ Err o
