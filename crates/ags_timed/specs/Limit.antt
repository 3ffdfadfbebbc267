-- How long a cycle of the machine takes.
use Rattle.std.specs.Prelude.{ℕ}

-- a cycle has so many microseconds
abbrev pub cycle_micros : ℕ
cycle_micros = 20000
