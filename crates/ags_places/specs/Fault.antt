-- What is wrong with the cards of a source, up to the phase of places.
use Rattle.std.specs.Option.{option_or}
use Rattle.std.specs.Prelude.{ℕ, ◌+◌, Bool, ◌&&◌, if◌then◌else◌, nat_le, List, [], length, Option, Some, None, option_map, Result, Ok, Err, ℤ, pos, neg_ℤ, ◌+ℤ◌, int_le}
use Rattle.ags_text.specs.Fault.{first_fault}
use Rattle.ags_card.specs.declared.cards.Body.{Body}
use Rattle.ags_card.specs.declared.cards.Body.TheVariants.{Comment, Order, Org, Equ, Bss, Bes, Dec, Oct, End}
use Rattle.ags_card.specs.declared.cards.Card.{Card}
use Rattle.ags_card.specs.declared.cards.CardFault.{CardFault}
use Rattle.ags_symbol.specs.Limit.{value_limit}
use Rattle.ags_symbol.specs.Symbol.{Entry, found, sum_of}
use Rattle.ags_places.specs.declared.source_error.PlaceFault.{PlaceFault}
use Rattle.ags_places.specs.declared.source_error.PlaceFault.TheVariants.{SymbolTwice, UndefinedEarly, PlaceRange}
use Rattle.ags_places.specs.declared.source_error.SourceKind.{SourceKind}
use Rattle.ags_places.specs.declared.source_error.SourceKind.TheVariants as kind
use Rattle.ags_places.specs.Deck.{card_lines, readings, cards}
use Rattle.ags_places.specs.Place.{early, place}

-- ---- the phase of cards

-- the fault of a line in the phase of cards, whatever stands before it
abbrev pub card_fault : List (Result Card CardFault) → Result Card CardFault → Option CardFault
card_fault before (Ok card) = None
card_fault before (Err fault) = Some fault

-- ---- the phase of places: one card, by the pairs of the cards before it and by its place

-- an earlier card defines the symbol
abbrev pub twice : List Entry → Option (List ℕ) → Option PlaceFault
twice early None = None
twice early (Some name) = option_map (λ entry. SymbolTwice entry.card) (found name early)

-- what a value or a place that is taken to be in its range is told as, where it isn't
abbrev pub unless : Bool → Option PlaceFault
unless within = if within then None else Some PlaceRange

-- an operand with a symbol that no earlier card defines, or one that is out of its range
abbrev pub operand_fault : (ℤ → Bool) → Option ℤ → Option PlaceFault
operand_fault within None = Some UndefinedEarly
operand_fault within (Some value) = unless (within value)

-- the place of an ORG is one of the memory's
abbrev pub is_place : ℤ → Bool
is_place value = int_le (pos 0) value && int_le value (pos 4095)

-- the value of an EQU is one that a symbol may have
abbrev pub is_value : ℤ → Bool
is_value value = int_le (neg_ℤ value_limit) value && int_le value value_limit

-- a BSS or a BES goes forward, to the memory's end at most
abbrev pub fits_behind : ℕ → ℤ → Bool
fits_behind at value = int_le (pos 0) value && int_le (pos at +ℤ value) (pos 4096)

-- the memory has so many words from the place on
abbrev pub holds_words : (at many : ℕ) → Bool
holds_words at many = nat_le (at + many) 4096

-- what is wrong with what a card asks for
abbrev pub body_fault : List Entry → ℕ → Body → Option PlaceFault
body_fault early at Comment = None
body_fault early at (Order order terms indexed) = unless (holds_words at 1)
body_fault early at (Org terms) = operand_fault is_place (sum_of early at terms)
body_fault early at (Equ terms) = operand_fault is_value (sum_of early at terms)
body_fault early at (Bss terms) = operand_fault (fits_behind at) (sum_of early at terms)
body_fault early at (Bes terms) = operand_fault (fits_behind at) (sum_of early at terms)
body_fault early at (Dec numbers) = unless (holds_words at (length numbers))
body_fault early at (Oct words) = unless (holds_words at (length words))
body_fault early at End = None

-- what is wrong with a card: its symbol first
abbrev pub place_fault_at : List Entry → ℕ → Card → Option PlaceFault
place_fault_at early at card = option_or (twice early card.symbol) (body_fault early at card.body)

-- ---- the phase of places, by S

-- the fault of a card after those before it, nearest first
abbrev pub place_fault : List Entry → List Card → Card → Option PlaceFault
place_fault S before card = place_fault_at (early S (length before)) (place S before) card

-- ---- both phases

-- the first fault of a source in the phase of cards, and its card's number
abbrev pub first_card_fault : List ℕ → Option (ℕ × CardFault)
first_card_fault text = first_fault card_fault [] (readings (card_lines text))

-- the first fault of a source in the phase of places, where S fits its cards
abbrev pub first_place_fault : List Entry → List ℕ → Option (ℕ × PlaceFault)
first_place_fault S text = first_fault (place_fault S) [] (cards text)

-- a fault of one phase, as a fault of the source; it is of the same card
abbrev pub told_as : {F : Type 0} → (F → SourceKind) → Option (ℕ × F) → Option (ℕ × SourceKind)
told_as phase found = option_map (λ one. (one.0, phase one.1)) found

-- The first fault of a source up to the phase of places: that of the phase of cards comes first, whatever card has it.
abbrev pub early_fault : List Entry → List ℕ → Option (ℕ × SourceKind)
early_fault S text = option_or (told_as kind.Card (first_card_fault text)) (told_as kind.Place (first_place_fault S text))
