-- A source whose cards were read once.
use Rattle.std.specs.Prelude.{◌≡◌, ℕ, List, [], Option, Some, None}
use Rattle.ags_card.specs.declared.cards.Card.{Card}
use Rattle.ags_image.specs.Image.{IsImageOf}
use Rattle.ags_symbol.specs.Symbol.{Entry}
use Rattle.ags_places.specs.declared.placed.Placed.{Placed}
use Rattle.ags_places.specs.declared.source_error.PlaceFault.{PlaceFault}
use Rattle.ags_places.specs.Deck.{card_lines, cards}
use Rattle.ags_places.specs.Fault.{first_card_fault}
use Rattle.ags_places.specs.Place.{Fits, counts, places}
use Rattle.ags_places.specs.Source as early
use Rattle.ags_places.specs.Source.{IsFirstPlaceFault, IsPlaced}
use Rattle.ags_asm.specs.declared.passing.Pass.{Pass}
use Rattle.ags_asm.specs.HalfMade.{IsFreshWords, IsHalfMade}
use Rattle.ags_asm.specs.Source.{placed_words, source_fault}
use Rattle.ags_asm.specs.Word.{definitions}

-- no card is read
pub record IsFresh (pass : Pass) : Type 0 where
  pub cards : pass.cards.items ≡ []
  pub symbols : pass.symbols ≡ []
  pub place : pass.place ≡ 0
  pub words : IsFreshWords pass.words
  pub misplaced : pass.misplaced ≡ None

-- the cards before these are all; their words are made, but for those that wait
pub record IsEnded (codes text : List ℕ) (pass : Pass) : Type 0 where
  pub placed : IsPlaced text pass.cards.items pass.symbols
  pub before : List Card
  pub half : IsHalfMade codes pass.symbols (cards text) before [] pass.words

-- each line is a card; and each card is placed, or this one is the first that can't be
pub record IsPassed (codes text : List ℕ) (pass : Pass) : Type 0 where
  pub read : first_card_fault text ≡ None
  pub misplaced : (found : ℕ × PlaceFault) → pass.misplaced ≡ Some found → IsFirstPlaceFault text found
  pub ended : pass.misplaced ≡ None → IsEnded codes text pass

-- The text is a source without a fault, these are its cards as they are placed, S is what its symbols stand for, and
-- the image has exactly the words that it defines.
pub record IsClosed (codes text : List ℕ) (placed : List Placed) (S : List Entry) (image : List (Option ℕ)) : Type 0 where
  pub fits : Fits S (cards text)
  pub faultless : source_fault S text ≡ None
  pub cards_are : placed ≡ early.placed_cards (card_lines text) (places S (cards text)) (counts (cards text))
  pub image_is : IsImageOf (placed_words (definitions codes S (cards text))) image
