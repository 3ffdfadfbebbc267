-- What is checked of a certificate in hand before its rows.
use Rattle.std.specs.Prelude.{◌≡◌, ℕ, ◌<◌, true, ℤ, List, Option}
use Rattle.ags_word.specs.Word.{val}
use Rattle.ags_domain.specs.Value.{value_meaning}
use Rattle.ags_domain.specs.declared.values.Value.{Value}
use Rattle.ags_image.specs.Image.{entry_at}
use Rattle.ags_row.specs.Limit.{cell_limit}
use Rattle.ags_safe.specs.Certificate.{Certificate}
use Rattle.ags_safe.specs.Accepted.{IsFirstHeld}
use Rattle.ags_safe.specs.Start.{IsFirstWord}

-- the first word of the erasable cell at an address is in the cell's limit
abbrev pub IsFirstHeldAt : List (Option ℕ) → Certificate Value → ℕ → Type 0
IsFirstHeldAt image cert address = IsFirstHeld value_meaning (cell_limit cert.limits address) (entry_at image address) (cert.init address)

-- the first address of an erasable cell whose first word isn't in the cell's limit
pub record IsFirstOutside (image : List (Option ℕ)) (cert : Certificate Value) (address : ℕ) : Type 0 where
  pub erasable : address < 2048
  pub before : (other : ℕ) → other < address → IsFirstHeldAt image cert other
  pub outside : ¬ IsFirstHeldAt image cert address

-- a set holds each word that may stand at the start in a cell with this entry of the image, and this statement
abbrev pub HoldsFirstWords : Value → Option ℕ → Option Value → Type 0
HoldsFirstWords value entry stated = (word : ℕ) → IsFirstWord value_meaning entry stated word → value_meaning.held value word ≡ true

-- a number is the value of each word that may stand at the start in a cell with this entry of the image, and this statement
abbrev pub IsOffsetOfFirstWords : ℤ → Option ℕ → Option Value → Type 0
IsOffsetOfFirstWords offset entry stated = (word : ℕ) → IsFirstWord value_meaning entry stated word → offset ≡ val word
