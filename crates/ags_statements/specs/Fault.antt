-- Of several faults of a statement the one of the least number is told.
use Rattle.std.specs.Prelude.{Bool, true, false, Option, Some}

-- a fault where a test holds, and else what is found later: so of several faults the first that is written is told
abbrev pub fault_if : {F : Type 0} → Bool → F → Option F → Option F
fault_if true fault later = Some fault
fault_if false fault later = later
