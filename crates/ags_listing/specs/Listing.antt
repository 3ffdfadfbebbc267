-- The listing of printed cards, and that of a source.
use Rattle.std.specs.Prelude.{◌≡◌, ℕ, ◌+◌, ◌≤◌, List, [], ◌∷◌, ◌++◌, length, Option, Some, None, codes, IfSome}
use Rattle.std.specs.List.{filter_map}
use Rattle.ags_text.specs.Line.{LineAt, HasNoFeed}
use Rattle.ags_text.specs.Numeral.{decimal7_text, octal4_text, octal6_text}
use Rattle.ags_image.specs.Image.{PlacedWord, IsMemoryWord}
use Rattle.ags_places.specs.Limit.{source_limit}
use Rattle.ags_places.specs.Deck.{card_lines}
use Rattle.ags_asm.specs.declared.assembling.Assembled.{Assembled}
use Rattle.ags_asm.specs.Source.{AreSpans, CardWords, card_words, placed_cards}

-- a line of the listing: a card's number, a word at its place, if there is one, and a text
pub record PrintedCard : Type 0 where
  pub number : ℕ
  pub placed : Option PlacedWord
  pub text : List ℕ

-- the columns of a card's place and word: eleven blanks where it has none
abbrev pub columns : Option PlacedWord → List ℕ
columns None = codes "           "
columns (Some placed) = octal4_text placed.place ++ codes " " ++ octal6_text placed.word

-- a card's line, without its line feed: its number, its place and word, and its text
abbrev pub printed_line : PrintedCard → List ℕ
printed_line card = decimal7_text card.number ++ codes " " ++ columns card.placed ++ codes " " ++ card.text

-- and with it
abbrev pub listing_line : PrintedCard → List ℕ
listing_line card = printed_line card ++ codes "\n"

-- the listing of cards, a line each
unfoldable pub listing_text : List PrintedCard → List ℕ
listing_text [] = []
listing_text (card ∷ cards) = listing_line card ++ listing_text cards

-- the words of the cards, in order
abbrev pub printed_words : List PrintedCard → List PlacedWord
printed_words cards = filter_map (λ card. card.placed) cards

-- a card can be printed on a line: its word is one of the memory, and its text has no line feed
pub record IsPrintable (card : PrintedCard) : Type 0 where
  pub within : IfSome card.placed IsMemoryWord
  pub unbroken : HasNoFeed card.text

-- ---- of a source

-- the lines of the words that follow a card's first one, each with the card's number and without a text
abbrev pub printed_more : (number : ℕ) → List PlacedWord → List PrintedCard
printed_more number [] = []
printed_more number (one ∷ more) = record { number = number; placed = Some one; text = [] } ∷ printed_more number more

-- a card as it is printed: a line with its text and its first word, where it has one, and a line for each further word
abbrev pub printed_card : (number : ℕ) (text : List ℕ) → List PlacedWord → List PrintedCard
printed_card number text [] = record { number = number; placed = None; text = text } ∷ []
printed_card number text (one ∷ more) = record { number = number; placed = Some one; text = text } ∷ printed_more number more

-- The cards of lines as they are printed, from that number on, with these words: of two lists of one length, since a source
-- defines one list of words for each line.
abbrev pub printed_from : ℕ → List LineAt → CardWords → List PrintedCard
printed_from number [] defined = []
printed_from number (line ∷ lines) [] = []
printed_from number (line ∷ lines) (words ∷ defined) = printed_card number line.bytes words ++ printed_from (number + 1) lines defined

-- the listing of a source, whose cards have these words
unfoldable pub listing : (text : List ℕ) → CardWords → List ℕ
listing text defined = listing_text (printed_from 1 (card_lines text) defined)

-- The cards are those of the source's lines, which is within its limit.
pub record AreCardsOf (bytes : List ℕ) (made : Assembled) : Type 0 where
  pub short : length bytes ≤ source_limit
  pub spans : AreSpans 0 (length bytes) made.cards.items
  pub cards_are : made.cards.items ≡ placed_cards (card_lines bytes) (card_words made)
