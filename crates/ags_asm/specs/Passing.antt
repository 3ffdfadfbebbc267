-- One card further in one pass over a source.
use Rattle.std.specs.Prelude.{◌≡◌, ◌⊎◌, ℕ, ◌≤◌, Bool, List, [], ◌∷◌, ◌++◌, length, Some, None, Ok, Err}
use Rattle.ags_text.specs.Line.{LineAt}
use Rattle.ags_card.specs.declared.cards.Card.{Card}
use Rattle.ags_card.specs.declared.cards.CardFault.{CardFault}
use Rattle.ags_card.specs.Reading.{reading}
use Rattle.ags_symbol.specs.Symbol.{Entry}
use Rattle.ags_places.specs.declared.source_error.PlaceFault.{PlaceFault}
use Rattle.ags_places.specs.declared.source_error.SourceKind.TheVariants as kind
use Rattle.ags_places.specs.declared.source_error.AssembleError.{AssembleError}
use Rattle.ags_places.specs.declared.source_error.AssembleError.TheVariants.{Source, NoMemory}
use Rattle.ags_places.specs.Deck.{is_end}
use Rattle.ags_places.specs.Fault.{place_fault_at}
use Rattle.ags_places.specs.Place.{count, pair_of, place_after, symbol_value, place_of_word}
use Rattle.ags_places.specs.Source.{placed_at}
use Rattle.ags_asm.specs.declared.passing.Pass.{Pass}
use Rattle.ags_asm.specs.HalfMade.{AreFew, IsHalfMade, StandsNext}

-- a card without a fault up to the phase of places was taken
pub record IsTakenWhole (codes : List ℕ) (line : LineAt) (number : ℕ) (card : Card) (was now : Pass) : Type 0 where
  pub misplaced : now.misplaced ≡ None
  pub faultless : place_fault_at was.symbols was.place card ≡ None
  pub pair : now.symbols ≡ was.symbols ++ pair_of card.symbol (symbol_value was.symbols was.place card.body) number
  pub next : now.place ≡ place_after was.symbols was.place card.body
  pub cards : now.cards.items ≡ was.cards.items ++ placed_at line (place_of_word was.place card.body) (count card.body) ∷ []
  pub words : (later : List Entry) (cards before left : List Card) → StandsNext (now.symbols ++ later) before number was.place
      → IsHalfMade codes (now.symbols ++ later) cards before (card ∷ left) was.words → IsHalfMade codes (now.symbols ++ later) cards (card ∷ before) left now.words

-- a card was taken, or it stopped the placing, or that was stopped before
abbrev pub IsTaken : (codes : List ℕ) (line : LineAt) (number : ℕ) (card : Card) (was now : Pass) → Type 0
IsTaken codes line number card was now =
    ((was.misplaced ≡ None) × IsTakenWhole codes line number card was now)
    ⊎ ((was.misplaced ≡ None) × (fault : PlaceFault) × (now.misplaced ≡ Some (number, fault)) × (place_fault_at was.symbols was.place card ≡ Some fault))
    ⊎ ((found : ℕ × PlaceFault) × (was.misplaced ≡ Some found) × (now.misplaced ≡ Some found))

-- the line is a card, that was taken, and ends the source or doesn't
abbrev pub IsTakenLine : (codes : List ℕ) (line : LineAt) (number : ℕ) (last : Bool) (was now : Pass) → Type 0
IsTakenLine codes line number last was now = (card : Card) × (reading line.bytes ≡ Ok card) × (is_end card.body ≡ last) × IsTaken codes line number card was now

-- the line of that number is no card, and this is its fault, or it was want of memory
abbrev pub IsMisread : LineAt → (number : ℕ) → AssembleError → Type 0
IsMisread line number (Source error) = (fault : CardFault) × (reading line.bytes ≡ Err fault) × (error ≡ record { card = number; kind = kind.Card fault })
IsMisread line number NoMemory = Unit {0}

-- what is kept stays within its limits: the next place is one of the memory or the one after it, each place has an owner's number,
-- and no more orders wait than places are owned, but for one
pub record IsWithinLimits (pass : Pass) : Type 0 where
  pub place : pass.place ≤ 4096
  pub whole : length pass.words.owners.items ≡ 4096
  pub few : AreFew pass.words
