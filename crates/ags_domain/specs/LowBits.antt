-- The low part of Q.
use Rattle.std.specs.Prelude.{ℕ, ◌-◌, ◌^◌}

-- the word whose low 17 bits are set, and no other
abbrev pub all_ones : ℕ
all_ones = 2 ^ 17 - 1
