-- A case: what the checker judges at once.
use Rattle.std.specs.Prelude.{◌≡◌, ℕ, ◌+◌, ◌%◌, Bool, true, List, [], ◌∷◌, Option, Some, None, MatchBool, nat_lt}
use Rattle.ags_domain.specs.Domain.{Meaning, AreFew}
use Rattle.ags_domain.specs.declared.word_sets.WordSet.{WordSet}
use Rattle.ags_ports.specs.declared.machines.Machine.{Machine}
use Rattle.ags_image.specs.Image.{word_at}
use Rattle.ags_row.specs.Limit.{Limiting}
use Rattle.ags_row.specs.Cover.{cell_value}
use Rattle.ags_row.specs.declared.rows.Row.{Row}

-- A machine, an image and limits; a row, and one word of its code, one index and one indicator.
pub record Case (D : Type 0) : Type 0 where
  pub machine : Machine
  pub image : List (Option ℕ)
  pub limits : Limiting D
  pub row : Row D
  pub word : ℕ
  pub index : ℕ
  pub indicator : Bool

-- the location after that of the row
abbrev pub next_of_row : {D : Type 0} → Row D → ℕ
next_of_row row = (row.location + 1) % 4096

-- the cell is erasable: it lies below 4000 octal
abbrev pub is_erasable : ℕ → Bool
is_erasable address = nat_lt address 2048

-- The words that may stand at a row's location: the one word of a fixed cell; of an erasable one those that it may hold, and
-- there is none where these are more than 16.
abbrev pub IsCode : {D : Type 0} → Meaning D → List (Option ℕ) → Limiting D → Row D → Option WordSet → Type 0
IsCode meaning image limits row (Some set) = MatchBool (is_erasable row.location)
    (AreFew meaning (cell_value row limits row.location) (Some set))
    (set.list ≡ word_at image row.location ∷ [])
IsCode meaning image limits row None = (is_erasable row.location ≡ true) × AreFew meaning (cell_value row limits row.location) None

-- the case of these parts
abbrev pub case_of : {D : Type 0} → Machine → List (Option ℕ) → Limiting D → Row D → (word index : ℕ) → Bool → Case D
case_of machine image limits row word index indicator = record {
  machine = machine;
  image = image;
  limits = limits;
  row = row;
  word = word;
  index = index;
  indicator = indicator;
}
