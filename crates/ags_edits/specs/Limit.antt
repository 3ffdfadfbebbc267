-- How long a text of edits may be.
use Rattle.std.specs.Prelude.{ℕ}

-- the most bytes of a text of edits
abbrev pub edits_limit : ℕ
edits_limit = 4194304
