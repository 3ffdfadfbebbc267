-- How two images compare: they agree at every location of the memory, or there is a least one at which they differ.
use Rattle.std.specs.Prelude.{◌≡◌, ◌≢◌, ℕ, ◌<◌, List, Option}
use Rattle.ags_image.specs.Image.{memory_size, entry_at}
use Rattle.ags_compare.specs.declared.comparing.Compared.{Compared}
use Rattle.ags_compare.specs.declared.comparing.Compared.TheVariants.{Equal, Differs}

-- they have the same word, or both none, at each location below that one
abbrev pub AgreeBelow : (left right : List (Option ℕ)) (location : ℕ) → Type 0
AgreeBelow left right location = (lower : ℕ) → lower < location → entry_at left lower ≡ entry_at right lower

-- That location is the least at which they differ, and these are their entries there.
pub record IsLeastDifference (left right : List (Option ℕ)) (location : ℕ) (one other : Option ℕ) : Type 0 where
  pub within : location < memory_size
  pub lower : AgreeBelow left right location
  pub left_entry : entry_at left location ≡ one
  pub right_entry : entry_at right location ≡ other
  pub differ : one ≢ other

-- what an answer says of two images
abbrev pub IsComparison : (left right : List (Option ℕ)) → Compared → Type 0
IsComparison left right Equal = AgreeBelow left right memory_size
IsComparison left right (Differs location one other) = IsLeastDifference left right location one other
