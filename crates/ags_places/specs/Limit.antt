-- How long a source may be.
use Rattle.std.specs.Prelude.{ℕ}

-- a source has at most so many bytes
abbrev pub source_limit : ℕ
source_limit = 4194304
