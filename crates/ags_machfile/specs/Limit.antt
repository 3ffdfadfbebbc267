-- How long a machine file may be.
use Rattle.std.specs.Prelude.{ℕ}

-- a machine file has at most so many bytes
abbrev pub machine_limit : ℕ
machine_limit = 65536
