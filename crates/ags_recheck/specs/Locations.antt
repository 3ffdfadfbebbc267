-- Sets of locations, as words of 64 bits each.
use Rattle.std.specs.Prelude.{ℕ, ◌/◌, ◌%◌, ◌==◌, Bool, List, get_or}
use Rattle.std.specs.Int.{bit_at}

-- a set has a location: its bit is set
abbrev pub has_location : List ℕ → (location : ℕ) → Bool
has_location words location = bit_at (get_or words (location / 64) 0) (location % 64) == 1
