-- How long a tape may be.
use Rattle.std.specs.Prelude.{ℕ}

-- a tape has at most so many bytes, as a listing has
abbrev pub tape_limit : ℕ
tape_limit = 134217728
