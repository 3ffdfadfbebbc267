-- How long a text of times may be.
use Rattle.std.specs.Prelude.{ℕ}

-- the most bytes of a text of times
abbrev pub times_limit : ℕ
times_limit = 4194304
