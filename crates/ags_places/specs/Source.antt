-- What a source is placed as, and the first card of it that can't be placed.
use Rattle.std.specs.Prelude.{◌≡◌, ℕ, ◌+◌, ◌<◌, ◌≤◌, List, [], ◌∷◌, length, Option, Some, None, IfSome}
use Rattle.ags_text.specs.Line.{LineAt}
use Rattle.ags_symbol.specs.Symbol.{Entry}
use Rattle.ags_places.specs.declared.placed.Placed.{Placed}
use Rattle.ags_places.specs.declared.source_error.PlaceFault.{PlaceFault}
use Rattle.ags_places.specs.Deck.{card_lines, cards}
use Rattle.ags_places.specs.Place.{Fits, counts, places}
use Rattle.ags_places.specs.Fault.{early_fault, first_place_fault}

-- a card as it is placed: the span of its line, the place of its first word, where it has some, and how many it has
abbrev pub placed_at : LineAt → (at : Option ℕ) → (many : ℕ) → Placed
placed_at line at many = record { start = line.start; end = line.start + length line.bytes; place = at; count = many }

-- each line's card so, where there are as many places and counts as lines
abbrev pub placed_cards : List LineAt → (places : List (Option ℕ)) → (counts : List ℕ) → List Placed
placed_cards [] places counts = []
placed_cards (line ∷ lines) [] counts = []
placed_cards (line ∷ lines) (at ∷ places) [] = []
placed_cards (line ∷ lines) (at ∷ places) (many ∷ counts) = placed_at line at many ∷ placed_cards lines places counts

-- The text is a source without a fault up to the phase of places, S is what its symbols stand for, and these are its cards.
pub record IsPlaced (text : List ℕ) (placed : List Placed) (S : List Entry) : Type 0 where
  pub fits : Fits S (cards text)
  pub faultless : early_fault S text ≡ None
  pub cards_are : placed ≡ placed_cards (card_lines text) (places S (cards text)) (counts (cards text))

-- the first fault of the phase of places is this one, of the card of this number
pub record IsFirstPlaceFault (text : List ℕ) (found : ℕ × PlaceFault) : Type 0 where
  pub symbols : List Entry
  pub fits : Fits symbols (cards text)
  pub first : first_place_fault symbols text ≡ Some found

-- where a card has a place, it is one of the memory's
abbrev pub IsInMemory : Placed → Type 0
IsInMemory card = IfSome card.place (λ at. at < 4096)

-- The spans of cards begin at that byte or after it, lie one after the other, and end within that limit.
abbrev pub AreSpans : (from limit : ℕ) → List Placed → Type 0
AreSpans from limit [] = Unit {0}
AreSpans from limit (card ∷ cards) = (from ≤ card.start) × (card.start ≤ card.end) × (card.end ≤ limit) × AreSpans (card.end + 1) limit cards
