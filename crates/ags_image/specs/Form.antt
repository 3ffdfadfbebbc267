-- What the lines of a text say, by the form of its lines.
use Rattle.std.specs.Prelude.{◌≡◌, ◌≢◌, ℕ, ◌<◌, List, Option, Some, None}
use Rattle.std.specs.List.{All, filter_map}
use Rattle.ags_image.specs.Image.{memory_size, PlacedWord, IsMemoryWord, EachPlaceOnce, IsImageOf}

-- what a line says: nothing where it hasn't the form, and else the word that it puts at a place, if it puts one
abbrev pub Form : Type 0
Form = List ℕ → Option (Option PlacedWord)

-- a line has the form
abbrev pub HasForm : Form → List ℕ → Type 0
HasForm form line = form line ≢ None

-- lines of the form put words of the memory alone
abbrev pub PutsInMemory : Form → Type 0
PutsInMemory form = (line : List ℕ) (placed : PlacedWord) → form line ≡ Some (Some placed) → IsMemoryWord placed

-- the word of what is said, if it has one
abbrev pub word_in : Option (Option PlacedWord) → Option PlacedWord
word_in None = None
word_in (Some entry) = entry

-- the words that lines put, in their order
abbrev pub words_of : Form → List (List ℕ) → List PlacedWord
words_of form lines = filter_map (λ line. word_in (form line)) lines

-- The lines are those of an image: each has the form, no place comes twice, and the image has exactly their words.
pub record ReadBy (form : Form) (lines : List (List ℕ)) (image : List (Option ℕ)) : Type 0 where
  pub each : All (HasForm form) lines
  pub once : EachPlaceOnce (words_of form lines)
  pub filled : IsImageOf (words_of form lines) image

-- ---- as a line is read

-- a word with its place, as the code has them
abbrev pub placed_of : Option (ℕ × ℕ) → Option PlacedWord
placed_of None = None
placed_of (Some pair) = Some (record { place = pair.0; word = pair.1 })

-- what a line says, as the code has it
abbrev pub entry_of : Option (Option (ℕ × ℕ)) → Option (Option PlacedWord)
entry_of None = None
entry_of (Some entry) = Some (placed_of entry)

-- a place that is read is one of the memory's
abbrev pub IsInMemory : Option (Option (ℕ × ℕ)) → Type 0
IsInMemory (Some (Some pair)) = pair.0 < memory_size
IsInMemory _ = Unit {0}
