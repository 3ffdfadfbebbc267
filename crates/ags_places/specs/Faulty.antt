-- When a card of a source is faulty in the phase of cards, and when in that of places: each kind of fault by a condition of its own,
-- as docs/SOURCE.md has them.
use Rattle.std.specs.Prelude.{◌≡◌, ◌⊎◌, ℕ, ◌+◌, ◌<◌, List, [], ◌∷◌, ◌++◌, length, reverse, Some, ℤ, pos, neg_ℤ, ◌+ℤ◌, ◌<ℤ◌}
use Rattle.std.specs.List.{Contains}
use Rattle.ags_text.specs.Line.{LineAt}
use Rattle.ags_card.specs.declared.cards.Body.{Body}
use Rattle.ags_card.specs.declared.cards.Body.TheVariants.{Comment, Order, Org, Equ, Bss, Bes, Dec, Oct, End}
use Rattle.ags_card.specs.declared.cards.Card.{Card}
use Rattle.ags_card.specs.declared.cards.CardFault.{CardFault}
use Rattle.ags_card.specs.declared.terms.Atom.TheVariants.{Symbol}
use Rattle.ags_card.specs.declared.terms.Term.{Term}
use Rattle.ags_card.specs.Spelling.{HasFault, fault_number}
use Rattle.ags_symbol.specs.Symbol.{Entry, sum_of}
use Rattle.ags_places.specs.declared.source_error.PlaceFault.{PlaceFault}
use Rattle.ags_places.specs.declared.source_error.PlaceFault.TheVariants.{SymbolTwice, UndefinedEarly, PlaceRange}
use Rattle.ags_places.specs.declared.source_error.SourceKind.{SourceKind}
use Rattle.ags_places.specs.declared.source_error.SourceKind.TheVariants as kind
use Rattle.ags_places.specs.declared.source_error.WordFault.{WordFault}
use Rattle.ags_places.specs.declared.source_error.WordFault.TheVariants.{Undefined, AddressRange, ValueRange, PlaceTwice}
use Rattle.ags_places.specs.Deck.{card_lines, cards}
use Rattle.ags_places.specs.Place.{Fits, early, place}

-- the number of a fault: of several faults of a card the one with the least is told
abbrev pub place_fault_number : PlaceFault → ℕ
place_fault_number (SymbolTwice first) = 10
place_fault_number UndefinedEarly = 11
place_fault_number PlaceRange = 12

abbrev pub word_fault_number : WordFault → ℕ
word_fault_number Undefined = 13
word_fault_number (AddressRange value) = 14
word_fault_number ValueRange = 15
word_fault_number (PlaceTwice first) = 16

abbrev pub kind_number : SourceKind → ℕ
kind_number (kind.Card fault) = fault_number fault
kind_number (kind.Place fault) = place_fault_number fault
kind_number (kind.Word fault) = word_fault_number fault

-- Where x stands in a list, after those elements: this is its number, counted from 1, and this holds of it after them, nearest first.
pub record HoldsAt {X : Type 0} (Is : List X → X → Type 0) (xs : List X) (number : ℕ) : Type 0 where
  pub front : List X
  pub x : X
  pub behind : List X
  pub whole : xs ≡ front ++ x ∷ behind
  pub number_is : number ≡ length front + 1
  pub is : Is (reverse front) x

-- ---- the phase of cards

-- the line has the fault, whatever stands before it
abbrev pub IsMisread : CardFault → (before : List LineAt) → LineAt → Type 0
IsMisread fault before line = HasFault line.bytes fault

-- the line of the card of that number has the fault
abbrev pub HasCardFault : (text : List ℕ) (number : ℕ) → CardFault → Type 0
HasCardFault text number fault = HoldsAt (IsMisread fault) (card_lines text) number

-- ---- the phase of places

-- The list `before` of a definition has the cards before one, nearest first; their number is that of the last of them.

-- the card is one of those before, of that number, and after these earlier ones
abbrev pub IsBefore : (before : List Card) (number : ℕ) → Card → (earlier : List Card) → Type 0
IsBefore before number card earlier = (later : List Card) × (before ≡ later ++ card ∷ earlier) × (number ≡ length earlier + 1)

-- an earlier card, of that number, defines the symbol: it stands in its symbol field
abbrev pub DefinesBefore : (before : List Card) (number : ℕ) (name : List ℕ) → Type 0
DefinesBefore before number name = (card : Card) × (earlier : List Card) × IsBefore before number card earlier × (card.symbol ≡ Some name)

-- the operand of an ORG, an EQU, a BSS or a BES
abbrev pub placing_terms : Body → List Term
placing_terms Comment = []
placing_terms (Order order terms indexed) = []
placing_terms (Org terms) = terms
placing_terms (Equ terms) = terms
placing_terms (Bss terms) = terms
placing_terms (Bes terms) = terms
placing_terms (Dec numbers) = []
placing_terms (Oct words) = []
placing_terms End = []

-- one of the terms is a symbol that no earlier card defines
abbrev pub UsesUndefined : (before : List Card) → List Term → Type 0
UsesUndefined before terms = (term : Term) × (name : List ℕ) × Contains terms term × (term.atom ≡ Symbol name)
    × ((number : ℕ) → DefinesBefore before number name → ⊥)

-- the operand comes to a number below the least or above the most
abbrev pub ComesOutside : List Entry → ℕ → List Term → (least most : ℤ) → Type 0
ComesOutside symbols at terms least most = (value : ℤ) × (sum_of symbols at terms ≡ Some value) × ((value <ℤ least) ⊎ (most <ℤ value))

-- A place or a value is out of its limits: the place of an order's word, or of the last word of a DEC or an OCT, the place that an
-- ORG sets, the value of an EQU, or a BSS or a BES that goes back or beyond the memory's end.
abbrev pub IsOutOfRange : List Entry → ℕ → Body → Type 0
IsOutOfRange symbols at Comment = ⊥
IsOutOfRange symbols at (Order order terms indexed) = 4095 < at
IsOutOfRange symbols at (Org terms) = ComesOutside symbols at terms (pos 0) (pos 4095)
IsOutOfRange symbols at (Equ terms) = ComesOutside symbols at terms (neg_ℤ (pos 262143)) (pos 262143)
IsOutOfRange symbols at (Bss terms) = (value : ℤ) × (sum_of symbols at terms ≡ Some value) × ((value <ℤ pos 0) ⊎ (pos 4096 <ℤ (pos at +ℤ value)))
IsOutOfRange symbols at (Bes terms) = (value : ℤ) × (sum_of symbols at terms ≡ Some value) × ((value <ℤ pos 0) ⊎ (pos 4096 <ℤ (pos at +ℤ value)))
IsOutOfRange symbols at (Dec numbers) = 4096 < at + length numbers
IsOutOfRange symbols at (Oct words) = 4096 < at + length words
IsOutOfRange symbols at End = ⊥

-- the card has the fault, where S fits the cards: operands are taken over the pairs of the cards before it
abbrev pub IsMisplacedBy : List Entry → PlaceFault → (before : List Card) → Card → Type 0
IsMisplacedBy S (SymbolTwice first) before card = (name : List ℕ) × (card.symbol ≡ Some name) × DefinesBefore before first name
IsMisplacedBy S UndefinedEarly before card = UsesUndefined before (placing_terms card.body)
IsMisplacedBy S PlaceRange before card = IsOutOfRange (early S (length before)) (place S before) card.body

-- the card of that number has the fault
abbrev pub HasPlaceFault : (text : List ℕ) (number : ℕ) → PlaceFault → Type 0
HasPlaceFault text number fault = (S : List Entry) × Fits S (cards text) × HoldsAt (IsMisplacedBy S fault) (cards text) number
