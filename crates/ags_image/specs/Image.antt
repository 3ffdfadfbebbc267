-- What an assembly puts into the machine's memory: for each location a word or none, as a list in the order of the
-- locations.
use Rattle.std.specs.Prelude.{◌≡◌, ◌≢◌, ℕ, ◌<◌, ◌^◌, List, Option, Some, None, length, get_or, replicate, slice_set, unwrap_or}
use Rattle.std.specs.List.{AllPairs, Contains}

-- how many locations the memory has
abbrev pub memory_size : ℕ
memory_size = 4096

-- no location has a word
unfoldable pub no_words : List (Option ℕ)
no_words = replicate memory_size None

-- a location's word, if it has one
unfoldable pub entry_at : (image : List (Option ℕ)) (location : ℕ) → Option ℕ
entry_at image location = get_or image location None

-- a location's word, and 0 where it has none
unfoldable pub word_at : (image : List (Option ℕ)) (location : ℕ) → ℕ
word_at image location = unwrap_or (entry_at image location) 0

-- one location has this word, and every other has what it had
unfoldable pub with_word : (image : List (Option ℕ)) (location word : ℕ) → List (Option ℕ)
with_word image location word = slice_set image location (Some word)

-- an image has an entry for each location of the memory, and each word in it is below 2 ^ 18
pub record IsImage (image : List (Option ℕ)) : Type 0 where
  pub whole : length image ≡ memory_size
  pub words : (location : ℕ) → word_at image location < 2 ^ 18

-- a word with the place of the memory that it is put at
pub record PlacedWord : Type 0 where
  pub place : ℕ
  pub word : ℕ

-- it is a word, below 2 ^ 18, at a place of the memory
pub record IsMemoryWord (placed : PlacedWord) : Type 0 where
  pub place : placed.place < memory_size
  pub word : placed.word < 2 ^ 18

-- no two of the words are put at one place
abbrev pub EachPlaceOnce : List PlacedWord → Type 0
EachPlaceOnce words = AllPairs (λ one other. one.place ≢ other.place) words

-- those of the words that are put at one place are one word
abbrev pub EachPlaceHasOneWord : List PlacedWord → Type 0
EachPlaceHasOneWord words = (one other : PlacedWord) → Contains words one → Contains words other → one.place ≡ other.place → one.word ≡ other.word

-- The image has exactly these words, each at its place: each word in the image is one of them, and each of them is in the
-- image.
pub record IsImageOf (words : List PlacedWord) (image : List (Option ℕ)) : Type 0 where
  pub is_image : IsImage image
  pub from_words : (place word : ℕ) → entry_at image place ≡ Some word → Contains words (record { place = place; word = word })
  pub has_words : (place word : ℕ) → Contains words (record { place = place; word = word }) → entry_at image place ≡ Some word
