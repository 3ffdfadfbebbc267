-- The tape of an image, and what a tape's lines say.
use Rattle.std.specs.Prelude.{◌≡◌, ◌↔◌, ℕ, ◌+◌, ◌<◌, ◌&&◌, nat_eq, List, [], ◌∷◌, ◌++◌, length, take, drop, slice_index, Option, Some, None, codes, if◌then◌else◌}
use Rattle.std.specs.List.{AllPairs, Contains}
use Rattle.ags_text.specs.Numeral.{octal4_text, octal6_text}
use Rattle.ags_image.specs.Image.{PlacedWord, entry_at}
use Rattle.ags_image.specs.Columns.{placed_in}
use Rattle.ags_image.specs.Form.{Form, ReadBy}
use Rattle.ags_image.specs.Lines.{feed_lines}

-- ---- as it is written

-- the line of a word at a location, without its line feed
abbrev pub tape_line : (location word : ℕ) → List ℕ
tape_line location word = octal4_text location ++ codes " " ++ octal6_text word

-- the lines of the words at these locations, of which the first is that one: each location with a word has one
unfoldable pub tape_from : (location : ℕ) → List (Option ℕ) → List ℕ
tape_from location [] = []
tape_from location (None ∷ entries) = tape_from (location + 1) entries
tape_from location (Some word ∷ entries) = (tape_line location word ++ codes "\n") ++ tape_from (location + 1) entries

-- the tape of an image
abbrev pub tape_text : List (Option ℕ) → List ℕ
tape_text image = tape_from 0 image

-- the line of a word at its place, with its line feed
abbrev pub word_line : PlacedWord → List ℕ
word_line placed = tape_line placed.place placed.word ++ codes "\n"

-- the words of an image, by ascending places: each word that a location has, and no other
pub record AreWordsInOrder (image : List (Option ℕ)) (words : List PlacedWord) : Type 0 where
  pub ascend : AllPairs (λ one other. one.place < other.place) words
  pub each : (place word : ℕ) → (entry_at image place ≡ Some word) ↔ Contains words (record { place = place; word = word })

-- ---- as it is read

-- digits put a word at a place, and other bytes have no form
abbrev pub put : Option PlacedWord → Option (Option PlacedWord)
put None = None
put (Some placed) = Some (Some placed)

-- a line without its line feed: four octal digits, a space, and six octal digits
unfoldable pub tape_form : Form
tape_form line = if nat_eq (length line) 11 && nat_eq (slice_index line 4) 32 then put (placed_in (take 4 line) (drop 5 line)) else None

-- the bytes are a tape of that image
abbrev pub ReadsTape : List ℕ → List (Option ℕ) → Type 0
ReadsTape bytes image = ReadBy tape_form (feed_lines bytes) image
