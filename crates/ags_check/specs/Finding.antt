-- Rows of a certificate that are found. They are numbered from 1.
use Rattle.std.specs.Prelude.{◌≡◌, ℕ, ◌+◌, ◌<◌, List, length, Option, Some, None, slice_index_or}
use Rattle.ags_domain.specs.Domain.{Meaning}
use Rattle.ags_row.specs.Cover.{Covers}
use Rattle.ags_row.specs.declared.posts.Post.{Post}
use Rattle.ags_row.specs.declared.rows.Row.{Row}
use Rattle.ags_safe.specs.Certificate.{Certificate}
use Rattle.ags_safe.specs.Accepted.{HoldsStart}

-- some one row has a property, which may speak of its number too
abbrev pub SomeRow : {D : Type 0} → (ℕ → Row D → Type 0) → List (Row D) → Type 0
SomeRow {D} has rows = (position : ℕ) × (row : Row D) × (position < length rows) × (slice_index_or rows position row ≡ row) × has (position + 1) row

-- the number of a row that has it, and nothing where no row has
abbrev pub IsFound : {D : Type 0} → (ℕ → Row D → Type 0) → List (Row D) → Option ℕ → Type 0
IsFound {D} has rows (Some number) = (position : ℕ) × (row : Row D) × (position < length rows) × (slice_index_or rows position row ≡ row)
    × has number row × (number ≡ position + 1)
IsFound has rows None = ¬ SomeRow has rows

-- a row covers a post of a base row, and a further condition holds of its number
abbrev pub IsCover : {D : Type 0} → Meaning D → Certificate D → (ℕ → Type 0) → Row D → Post D → ℕ → Row D → Type 0
IsCover meaning cert serves base post number target = Covers meaning target base post cert.limits × serves number

-- Some one row covers a post of a base row, and the further condition holds of its number.
abbrev pub IsCoveredBy : {D : Type 0} → Meaning D → Certificate D → (ℕ → Type 0) → Row D → Post D → Type 0
IsCoveredBy meaning cert serves base post = SomeRow (IsCover meaning cert serves base post) cert.rows

-- a row holds all that may stand at the start, and a further condition holds of its number
abbrev pub IsStartRow : {D : Type 0} → Meaning D → List (Option ℕ) → Certificate D → (ℕ → Type 0) → ℕ → Row D → Type 0
IsStartRow meaning image cert serves number row = HoldsStart meaning image cert row × serves number
