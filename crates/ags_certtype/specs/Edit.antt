-- Edits of a certificate: what each makes of it, and what it is refused for.
use Rattle.std.specs.Prelude.{◌≡◌, ◌⊎◌, ℕ, ◌-◌, ◌<◌, ◌≤◌, All, List, length, None, Result, Ok, Err, IfSome, get_or, set}
use Rattle.std.specs.List.{remove}
use Rattle.ags_domain.specs.Domain.{IsWithin}
use Rattle.ags_domain.specs.Value.{value_meaning}
use Rattle.ags_domain.specs.declared.values.Value.{Value}
use Rattle.ags_row.specs.Limit.{Limiting, cell_limit}
use Rattle.ags_row.specs.declared.ats.At.{At}
use Rattle.ags_row.specs.declared.rows.Row.{Row}
use Rattle.ags_certtype.specs.Cert.{Stated, rows_at}
use Rattle.ags_certtype.specs.Limit.{most_rows_at_one}
use Rattle.ags_certtype.specs.declared.edit_errors.EditError.{EditError}
use Rattle.ags_certtype.specs.declared.edit_errors.EditError.TheVariants.{NoRow, OutsideGlobal, BelowUse, FullLocation}

-- ---- a row is replaced

-- the certificate with the row of a number, from 1, replaced
abbrev pub with_row : Stated → (number : ℕ) → Row Value → Stated
with_row stated number new = record stated { rows = set stated.rows (number - 1) new }

-- no row has the number
abbrev pub IsNoRow : Stated → (number : ℕ) → Type 0
IsNoRow stated number = (number ≡ 0) ⊎ (length stated.rows < number)

-- each of some cells may hold what its limit says alone
abbrev pub AreCellsWithin : Limiting Value → List (At Value) → Type 0
AreCellsWithin limits cells = All (λ at. IsWithin value_meaning at.value (cell_limit limits at.address)) cells

-- one of the cells may hold more than its limit says, and it is the one with the least address
pub record IsLeastOutside (limits : Limiting Value) (cells : List (At Value)) (address : ℕ) : Type 0 where
  pub position : ℕ
  pub inside : position < length cells
  pub here : (d : At Value) → (get_or cells position d).address ≡ address
  pub outside : (d : At Value) → ¬ IsWithin value_meaning (get_or cells position d).value (cell_limit limits address)
  pub least : All (λ at. at.address < address → IsWithin value_meaning at.value (cell_limit limits at.address)) cells

-- how many rows stand at a location beside the row of a number
abbrev pub others_at : List (Row Value) → (number location : ℕ) → ℕ
others_at rows number location = rows_at (remove rows (number - 1)) location

-- What comes of a row's replacement: it is made, and nothing else of the certificate changes; or there is no such row, or a cell of the
-- new row may hold more than its limit says, or 512 others stand where it would, and nothing changes. The first of these that is so is
-- told.
abbrev pub ReplacesRow : (old : Stated) (number : ℕ) → Row Value → Result Unit EditError → (new : Stated) → Type 0
ReplacesRow old number row (Ok done) new = (¬ IsNoRow old number) × AreCellsWithin old.limits row.at
    × (others_at old.rows number row.location < most_rows_at_one) × (new ≡ with_row old number row)
ReplacesRow old number row (Err NoRow) new = IsNoRow old number × (new ≡ old)
ReplacesRow old number row (Err (OutsideGlobal address)) new = (¬ IsNoRow old number) × IsLeastOutside old.limits row.at address × (new ≡ old)
ReplacesRow old number row (Err BelowUse) new = ⊥
ReplacesRow old number row (Err FullLocation) new = (¬ IsNoRow old number) × AreCellsWithin old.limits row.at
    × (most_rows_at_one ≤ others_at old.rows number row.location) × (new ≡ old)

-- ---- a limit is replaced

-- what is stated of the cell, at the start and in each row, is within a value
pub record IsUseWithin (stated : Stated) (address : ℕ) (value : Value) : Type 0 where
  pub start : IfSome (get_or stated.init address None) (λ first. IsWithin value_meaning first value)
  pub rows : All (λ row. All (λ at. at.address ≡ address → IsWithin value_meaning at.value value) row.at) stated.rows

-- the certificate with the limit of an erasable cell replaced
abbrev pub with_limit : Stated → (address : ℕ) → Value → Stated
with_limit stated address value = record stated { limits = record stated.limits { cells = set stated.limits.cells address value } }

-- What comes of a limit's replacement: it is made, and nothing else of the certificate changes; or something that is stated of the cell
-- isn't within the new limit, and nothing changes.
abbrev pub ReplacesLimit : (old : Stated) (cell : At Value) → Result Unit EditError → (new : Stated) → Type 0
ReplacesLimit old cell (Ok done) new = IsUseWithin old cell.address cell.value × (new ≡ with_limit old cell.address cell.value)
ReplacesLimit old cell (Err BelowUse) new = (¬ IsUseWithin old cell.address cell.value) × (new ≡ old)
ReplacesLimit old cell (Err other) new = ⊥
