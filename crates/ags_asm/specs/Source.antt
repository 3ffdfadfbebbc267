-- What a source means: the words that it defines, or its first fault.
pub use Rattle.ags_places.specs.Source.{AreSpans, IsInMemory}
pub use Rattle.ags_asm.specs.Word.{CardWords}
use Rattle.std.specs.Prelude.{◌≡◌, ℕ, zero, suc, ◌+◌, List, [], ◌∷◌, length, map, Option, Some, None}
use Rattle.std.specs.List.{flat_map}
use Rattle.std.specs.Option.{option_or}
use Rattle.ags_text.specs.Line.{LineAt}
use Rattle.ags_image.specs.Image.{PlacedWord, IsImageOf, word_at}
use Rattle.ags_symbol.specs.Symbol.{Entry}
use Rattle.ags_places.specs.declared.placed.Placed.{Placed}
use Rattle.ags_places.specs.declared.source_error.SourceKind.{SourceKind}
use Rattle.ags_places.specs.declared.source_error.SourceKind.TheVariants as kind
use Rattle.ags_places.specs.declared.source_error.SourceError.{SourceError}
use Rattle.ags_places.specs.declared.source_error.AssembleError.{AssembleError}
use Rattle.ags_places.specs.declared.source_error.AssembleError.TheVariants.{Source, NoMemory}
use Rattle.ags_places.specs.Deck.{card_lines, cards}
use Rattle.ags_places.specs.Place.{Fits}
use Rattle.ags_places.specs.Fault.{early_fault, told_as}
use Rattle.ags_asm.specs.declared.assembling.Assembled.{Assembled}
use Rattle.ags_asm.specs.Word.{definitions, first_word_fault, placed_from}

-- The first fault of a source, where S fits its cards: the phase of cards comes first, then that of places, then that of
-- words, and in a phase the first card.
abbrev pub source_fault : List Entry → List ℕ → Option (ℕ × SourceKind)
source_fault S text = option_or (early_fault S text) (told_as kind.Word (first_word_fault S text))

-- The text is a source without a fault, and these are the words of its cards, each with its place, by the table of codes: one list
-- for each card.
pub record Defines (codes text : List ℕ) (defined : CardWords) : Type 0 where
  pub symbols : List Entry
  pub fits : Fits symbols (cards text)
  pub faultless : source_fault symbols text ≡ None
  pub words : defined ≡ definitions codes symbols (cards text)

-- the text is a source whose first fault is this one
pub record IsFaulty (text : List ℕ) (error : SourceError) : Type 0 where
  pub symbols : List Entry
  pub fits : Fits symbols (cards text)
  pub first : source_fault symbols text ≡ Some (error.card, error.kind)

-- why a text was not assembled, where it was not want of memory
abbrev pub IsRefused : List ℕ → AssembleError → Type 0
IsRefused text (Source error) = IsFaulty text error
IsRefused text NoMemory = Unit {0}

-- the words that the cards have, each with its place, in the order of the cards
abbrev pub placed_words : CardWords → List PlacedWord
placed_words defined = flat_map (λ words. words) defined

-- so many words that an image has from a place on
abbrev pub words_in : List (Option ℕ) → (at many : ℕ) → List ℕ
words_in image at zero = []
words_in image at (suc many) = word_at image at ∷ words_in image (at + 1) many

-- so many words of an image, each with its place, where there is a first one
abbrev pub words_there : List (Option ℕ) → (at : Option ℕ) → (many : ℕ) → List PlacedWord
words_there image None many = []
words_there image (Some at) many = placed_from at (words_in image at many)

-- the words of an assembled card, each with its place: the image has them
abbrev pub defined : List (Option ℕ) → Placed → List PlacedWord
defined image card = words_there image card.place card.count

-- the words of an assembled source's cards
abbrev pub card_words : Assembled → CardWords
card_words made = map (defined made.image) made.cards.items

-- a card as it was assembled: the span of its line, the place of its first word, where it has some, and how many it has
abbrev pub placed_at : LineAt → List PlacedWord → Placed
placed_at line [] = record { start = line.start; end = line.start + length line.bytes; place = None; count = 0 }
placed_at line (one ∷ more) = record { start = line.start; end = line.start + length line.bytes; place = Some one.place; count = length (one ∷ more) }

-- each line's card so, where there are as many lists as lines
abbrev pub placed_cards : List LineAt → CardWords → List Placed
placed_cards [] defined = []
placed_cards (line ∷ lines) [] = []
placed_cards (line ∷ lines) (words ∷ defined) = placed_at line words ∷ placed_cards lines defined

-- The text is a source without a fault, these are its cards with their places and the numbers of their words, S is what its symbols stand for, and
-- the image has exactly these words.
pub record IsAssembled (codes text : List ℕ) (placed : List Placed) (S : List Entry) (image : List (Option ℕ)) : Type 0 where
  pub fits : Fits S (cards text)
  pub faultless : source_fault S text ≡ None
  pub cards_are : placed ≡ placed_cards (card_lines text) (definitions codes S (cards text))
  pub image_is : IsImageOf (placed_words (definitions codes S (cards text))) image
