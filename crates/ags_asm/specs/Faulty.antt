-- The faulty cards of a source, by the card's number and the fault, each fault by a condition of its own, as docs/SOURCE.md has
-- them; and which of them is the least.
use Rattle.std.specs.Prelude.{◌≡◌, ◌≢◌, ◌⊎◌, ℕ, ◌+◌, ◌<◌, ◌≤◌, Bool, false, List, Some, pos, ◌<ℤ◌}
use Rattle.std.specs.List.{Contains}
use Rattle.ags_word.specs.Word.{fits}
use Rattle.ags_isa.specs.declared.orders.Order as isa
use Rattle.ags_decimal.specs.Decimal.{Parts, nearest_value}
use Rattle.ags_card.specs.declared.cards.Body.TheVariants.{Order, Dec}
use Rattle.ags_card.specs.declared.cards.Card.{Card}
use Rattle.ags_card.specs.declared.cards.CardFault.{CardFault}
use Rattle.ags_card.specs.declared.terms.Atom.TheVariants.{Symbol}
use Rattle.ags_card.specs.declared.terms.Term.{Term}
use Rattle.ags_symbol.specs.Symbol.{Entry, sum_of}
use Rattle.ags_places.specs.declared.source_error.PlaceFault.{PlaceFault}
use Rattle.ags_places.specs.declared.source_error.SourceKind.{SourceKind}
use Rattle.ags_places.specs.declared.source_error.SourceKind.TheVariants as kind
use Rattle.ags_places.specs.declared.source_error.WordFault.{WordFault}
use Rattle.ags_places.specs.declared.source_error.WordFault.TheVariants.{Undefined, AddressRange, ValueRange, PlaceTwice}
use Rattle.ags_places.specs.Deck.{cards}
use Rattle.ags_places.specs.Faulty.{HasCardFault, HasPlaceFault, HoldsAt, IsBefore, kind_number}
use Rattle.ags_places.specs.Place.{Fits, count, place}

-- ---- the phase of words

-- The list `before` of a definition has the cards before one, nearest first; their number is that of the last of them.

-- one of the terms is a symbol that no card defines
abbrev pub NamesNoCard : (cards : List Card) → List Term → Type 0
NamesNoCard cards terms = (term : Term) × (name : List ℕ) × Contains terms term × (term.atom ≡ Symbol name)
    × ((card : Card) → Contains cards card → card.symbol ≢ Some name)

-- the card is an order whose operand has these terms
abbrev pub IsOrderOf : Card → List Term → Type 0
IsOrderOf card terms = (order : isa.Order) × (indexed : Bool) × (card.body ≡ Order order terms indexed)

-- the card has a word at the place: its words stand from its own place on
abbrev pub HasWordAt : List Entry → (before : List Card) → Card → (at : ℕ) → Type 0
HasWordAt S before card at = (place S before ≤ at) × (at < place S before + count card.body)

-- an earlier card, of that number, has a word at the place
abbrev pub StandsBefore : List Entry → (before : List Card) → (number at : ℕ) → Type 0
StandsBefore S before number at = (card : Card) × (earlier : List Card) × IsBefore before number card earlier × HasWordAt S earlier card at

-- the nearest of them, whose number is the greatest
abbrev pub StandsNearest : List Entry → (before : List Card) → (number at : ℕ) → Type 0
StandsNearest S before number at = StandsBefore S before number at × ((other : ℕ) → StandsBefore S before other at → other ≤ number)

-- The card has the fault, where S fits all cards: operands are taken over all pairs. That a place is taken is told of the
-- least place that is.
abbrev pub IsMismadeBy : List Entry → (cards : List Card) → WordFault → (before : List Card) → Card → Type 0
IsMismadeBy S cards Undefined before card = (terms : List Term) × IsOrderOf card terms × NamesNoCard cards terms
IsMismadeBy S cards (AddressRange value) before card = (terms : List Term) × IsOrderOf card terms × (sum_of S (place S before) terms ≡ Some value)
    × ((value <ℤ pos 0) ⊎ (pos 4095 <ℤ value))
IsMismadeBy S cards ValueRange before card = (numbers : List Parts) × (number : Parts) × (card.body ≡ Dec numbers) × Contains numbers number × (fits (nearest_value number) ≡ false)
IsMismadeBy S cards (PlaceTwice first) before card = (at : ℕ) × HasWordAt S before card at × StandsBefore S before first at
    × ((other number : ℕ) → HasWordAt S before card other → StandsBefore S before number other → at ≤ other)

-- the card of that number has the fault
abbrev pub HasWordFault : (text : List ℕ) (number : ℕ) → WordFault → Type 0
HasWordFault text number fault = (S : List Entry) × Fits S (cards text) × HoldsAt (IsMismadeBy S (cards text) fault) (cards text) number

-- ---- all phases

-- the phase that a fault is found in: that of cards, that of places or that of words
abbrev pub phase_of : SourceKind → ℕ
phase_of (kind.Card fault) = 1
phase_of (kind.Place fault) = 2
phase_of (kind.Word fault) = 3

-- no card has a fault of the phase of cards, and none one of the phase of places
abbrev pub AreAllCards : List ℕ → Type 0
AreAllCards text = (card : ℕ) (fault : CardFault) → HasCardFault text card fault → ⊥

abbrev pub AreAllPlaced : List ℕ → Type 0
AreAllPlaced text = (card : ℕ) (fault : PlaceFault) → HasPlaceFault text card fault → ⊥

-- so of the cards before one
abbrev pub ArePlacedBefore : List ℕ → (card : ℕ) → Type 0
ArePlacedBefore text card = (other : ℕ) (fault : PlaceFault) → other < card → HasPlaceFault text other fault → ⊥

-- The card of that number is faulty so. A fault of the phase of places counts where no card has one of the phase of cards and no
-- earlier card one of places, and a fault of the phase of words where no card has one of an earlier phase.
abbrev pub IsFaultyCard : List ℕ → (card : ℕ) → SourceKind → Type 0
IsFaultyCard text card (kind.Card fault) = HasCardFault text card fault
IsFaultyCard text card (kind.Place fault) = HasPlaceFault text card fault × AreAllCards text × ArePlacedBefore text card
IsFaultyCard text card (kind.Word fault) = HasWordFault text card fault × AreAllCards text × AreAllPlaced text

-- the one phase, card and number come before the other, or are the same: the phase decides, then the card, then the number
abbrev pub NoneBefore : (phase card number other_phase other_card other_number : ℕ) → Type 0
NoneBefore phase card number other_phase other_card other_number = (phase < other_phase)
    ⊎ ((phase ≡ other_phase) × ((card < other_card) ⊎ ((card ≡ other_card) × (number ≤ other_number))))

-- the card is faulty so, and of all that a card is faulty by this is the least, by the phase, the card and the number
pub record IsLeastFaulty (text : List ℕ) (card : ℕ) (kind : SourceKind) : Type 0 where
  pub faulty : IsFaultyCard text card kind
  pub least : (other : ℕ) (too : SourceKind) → IsFaultyCard text other too
      → NoneBefore (phase_of kind) card (kind_number kind) (phase_of too) other (kind_number too)
