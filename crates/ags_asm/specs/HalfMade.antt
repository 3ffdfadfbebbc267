-- The half-made image of a source: what its words are while some orders still wait for symbols.
use Rattle.std.specs.Prelude.{◌≡◌, ◌⊎◌, ℕ, zero, suc, slice_set, ◌+◌, ◌<◌, List, [], ◌∷◌, ◌++◌, ◌≤◌, Bool, not, length, All, get_or, Option, Some, None, replicate, unwrap_or, ◌==◌, if◌then◌else◌}
use Rattle.std.specs.List.{Contains, count_by}
use Rattle.std.specs.Option.{option_or}
use Rattle.ags_text.specs.Fault.{first_fault}
use Rattle.ags_image.specs.Image.{PlacedWord, IsImage, entry_at, no_words, with_word}
use Rattle.ags_card.specs.declared.cards.Card.{Card}
use Rattle.ags_symbol.specs.Symbol.{Entry}
use Rattle.ags_places.specs.declared.source_error.WordFault.{WordFault}
use Rattle.ags_places.specs.Place.{place}
use Rattle.ags_asm.specs.declared.half_words.HalfWords.{HalfWords}
use Rattle.ags_asm.specs.Source.{placed_words}
use Rattle.ags_asm.specs.Word.{definitions_after, definitions, owner, word_fault}
use Rattle.ags_asm.specs.Waiting.{Waiting, closed_word, closed_words, closing_fault}

-- Each word in the image is one of all, and each of all is in the image or is one of those that are still to come.
pub record IsPartOf (all pending : List PlacedWord) (image : List (Option ℕ)) : Type 0 where
  pub from_words : (at word : ℕ) → entry_at image at ≡ Some word → Contains all (record { place = at; word = word })
  pub has_words : (at word : ℕ) → Contains all (record { place = at; word = word }) → (entry_at image at ≡ Some word) ⊎ Contains pending (record { place = at; word = word })
  pub pending_in : (one : PlacedWord) → Contains pending one → Contains all one

-- Under the pairs S that fit all cards, the words of the cards before are made, and those of the others left. The fault of the
-- whole source is that of the first order that waits and comes to one, else the one that was met, else that of the cards left. In
-- a source without a fault the image has each word but those that wait and those of the cards left.
pub record HalfMade (codes : List ℕ) (S : List Entry) (cards before left : List Card) (image : List (Option ℕ)) (waiting : List Waiting) (met : Option (ℕ × WordFault)) : Type 0 where
  pub fault : first_fault (word_fault S) [] cards ≡ option_or (closing_fault S waiting) (option_or met (first_fault (word_fault S) before left))
  pub part : first_fault (word_fault S) [] cards ≡ None → IsPartOf (placed_words (definitions codes S cards)) (closed_words codes S waiting ++ placed_words (definitions_after codes S before left)) image

-- the numbers, by place, are those of the cards that own the places; 0 is none
abbrev pub AreOwners : List Entry → List Card → List ℕ → Type 0
AreOwners S before owners = (at : ℕ) → at < 4096 → get_or owners at 0 ≡ unwrap_or (owner S at before) 0

-- so is what the assembler keeps, and where no fault of the phase of words was met the owners too
pub record IsHalfMade (codes : List ℕ) (S : List Entry) (cards before left : List Card) (made : HalfWords) : Type 0 where
  pub half : HalfMade codes S cards before left made.image made.waiting.items made.met
  pub owned : made.met ≡ None → AreOwners S before made.owners.items
  pub whole : IsImage made.image
  pub within : All (λ waiting. waiting.place < 4096) made.waiting.items

-- the next card after those before has that number and stands there
pub record StandsNext (S : List Entry) (before : List Card) (number at : ℕ) : Type 0 where
  pub number_is : number ≡ length before + 1
  pub at_is : at ≡ place S before

-- an image with words from a place on
abbrev pub filled : List (Option ℕ) → ℕ → List ℕ → List (Option ℕ)
filled image at [] = image
filled image at (word ∷ words) = filled (with_word image at word) (at + 1) words

-- the number of an owner, where it isn't 0
abbrev pub owner_numbered : ℕ → Option ℕ
owner_numbered number = if number == 0 then None else Some number

-- the owners that numbers tell
abbrev pub owners_of : List ℕ → ℕ → Option ℕ
owners_of owners at = owner_numbered (get_or owners at 0)

-- the owners with so many places from one on given to a card
abbrev pub owned_from : List ℕ → (at many number : ℕ) → List ℕ
owned_from owners at zero number = owners
owned_from owners at (suc many) number = owned_from (slice_set owners at number) (at + 1) many number

-- an image with the words of orders that waited
abbrev pub closed_into : List ℕ → List Entry → List (Option ℕ) → List Waiting → List (Option ℕ)
closed_into codes S image [] = image
closed_into codes S image (first ∷ waiting) = closed_into codes S (with_word image (closed_word codes S first).place (closed_word codes S first).word) waiting

-- whether the number is a card's
abbrev pub is_number : ℕ → Bool
is_number number = not (number == 0)

-- one where a fault was met
abbrev pub met_once : Option (ℕ × WordFault) → ℕ
met_once None = 0
met_once (Some found) = 1

-- No more orders wait than places are owned, but for one of the first card that met a fault.
abbrev pub AreFew : HalfWords → Type 0
AreFew made = length made.waiting.items ≤ count_by is_number made.owners.items + met_once made.met

-- no word is made
pub record IsFreshWords (words : HalfWords) : Type 0 where
  pub image : words.image ≡ no_words
  pub is_image : IsImage words.image
  pub owners : words.owners.items ≡ replicate 4096 0
  pub waiting : words.waiting.items ≡ []
  pub met : words.met ≡ None
