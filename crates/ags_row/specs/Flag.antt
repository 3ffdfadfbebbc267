-- Flags: for each index, or for each indicator, whether it may stand.
use Rattle.std.specs.Prelude.{ℕ, Bool, false, List, get_or, if◌then◌else◌}
use Rattle.std.specs.List.{list_any}

-- one of the flags is set
abbrev pub some_flag : List Bool → Bool
some_flag flags = list_any (λ flag. flag) flags

-- the number is one of a flag that is set
abbrev pub has_flag : List Bool → ℕ → Bool
has_flag flags number = get_or flags number false

-- the number of an indicator: 1 where it is set, else 0
abbrev pub indicator_number : Bool → ℕ
indicator_number indicator = if indicator then 1 else 0
