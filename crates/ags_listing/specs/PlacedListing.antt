-- The listing of cards as they were placed, by their spans in the source and their words in the image.
use Rattle.std.specs.Prelude.{ℕ, ◌+◌, ◌-◌, List, [], ◌∷◌, ◌++◌, Option, take, drop}
use Rattle.ags_places.specs.declared.placed.Placed.{Placed}
use Rattle.ags_asm.specs.Source.{defined, words_in}
use Rattle.ags_asm.specs.Word.{placed_from}
use Rattle.ags_listing.specs.Listing.{listing_text, printed_card, printed_more}

-- a card's text in its source
abbrev pub card_text : List ℕ → Placed → List ℕ
card_text source card = take (card.end - card.start) (drop card.start source)

-- the lines of so many words that an image has from a place on, without a text
unfoldable pub further_lines : (image : List (Option ℕ)) (number at many : ℕ) → List ℕ
further_lines image number at many = listing_text (printed_more number (placed_from at (words_in image at many)))

-- a card's lines
unfoldable pub card_lines : (source : List ℕ) (image : List (Option ℕ)) (number : ℕ) → Placed → List ℕ
card_lines source image number card = listing_text (printed_card number (card_text source card) (defined image card))

-- the lines of the cards from that number on
unfoldable pub placed_listing : (source : List ℕ) (image : List (Option ℕ)) (number : ℕ) → List Placed → List ℕ
placed_listing source image number [] = []
placed_listing source image number (card ∷ cards) = card_lines source image number card ++ placed_listing source image (number + 1) cards
