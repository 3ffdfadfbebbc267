-- How long a text of scales may be.
use Rattle.std.specs.Prelude.{ℕ}

-- the most bytes of a text of scales
abbrev pub scales_limit : ℕ
scales_limit = 4194304
