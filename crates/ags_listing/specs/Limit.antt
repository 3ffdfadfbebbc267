-- How long a listing may be.
use Rattle.std.specs.Prelude.{ℕ}

-- a listing has at most so many bytes
abbrev pub listing_limit : ℕ
listing_limit = 134217728
