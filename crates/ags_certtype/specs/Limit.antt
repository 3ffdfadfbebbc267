-- How many rows a certificate may have.
use Rattle.std.specs.Prelude.{ℕ}

-- in all, so many at most
abbrev pub most_rows : ℕ
most_rows = 20000

-- and at one location so many
abbrev pub most_rows_at_one : ℕ
most_rows_at_one = 512
