-- What serves inside: the rows of the symbols, and for each the cards that name it, card by card.
use Rattle.std.specs.Prelude.{◌≡◌, ℕ, ◌<◌, Vec, if◌then◌else◌, List, [], ◌∷◌, ◌++◌, length, Some, slice_get, slice_index_or, slice_range, nat_eq, ◌-◌}
use Rattle.std.specs.Option.{option_eq}
use Rattle.std.specs.List.{AllPairs}
use Rattle.std.specs.List.Sorted.{IsSortedBy}
use Rattle.ags_card.specs.declared.cards.Card.{Card}
use Rattle.ags_card.specs.declared.terms.Term.{Term}
use Rattle.ags_card.specs.Reading.{reading}
use Rattle.ags_places.specs.Deck.{card_of}
use Rattle.ags_places.specs.declared.placed.Placed.{Placed}
use Rattle.ags_symbol.specs.Symbol.{Entry}
use Rattle.ags_xref.specs.declared.rows.Row.{Row}
use Rattle.ags_xref.specs.Naming.{is_symbol_of, naming}
use Rattle.ags_xref.specs.Order.{comes_before}
use Rattle.ags_xref.specs.Xref.{xref_line}

-- the pair that a row stands for
abbrev pub entry_of : Row → Entry
entry_of row = record { name = row.name; value = row.defined.value; card = row.defined.card }

-- the rows ascend by their names, and no two are of one name
pub record AreRows (rows : List Row) : Type 0 where
  pub ascend : IsSortedBy (λ one other. comes_before one.name other.name) rows
  pub once : AllPairs (λ one other. one.name ≡ other.name → ⊥) rows

-- a card's number after the earlier ones, unless it is the last of them
abbrev pub once_behind : List ℕ → ℕ → List ℕ
once_behind numbers number = if option_eq nat_eq (slice_get numbers (length numbers - 1)) (Some number) then numbers else numbers ++ number ∷ []

-- the same where a term names the symbol
abbrev pub noted : (name : List ℕ) → (number : ℕ) → Term → List ℕ → List ℕ
noted name number term numbers = if is_symbol_of name term.atom then once_behind numbers number else numbers

-- and for the terms of a card, one after the other
unfoldable pub all_noted : (name : List ℕ) → (number : ℕ) → List Term → List ℕ → List ℕ
all_noted name number [] numbers = numbers
all_noted name number (term ∷ terms) numbers = all_noted name number terms (noted name number term numbers)

-- each row's numbers were changed so
pub record Changes {A : Type 0} (rows : List Row) (change : List ℕ → List ℕ → List ℕ) (old new : List (Vec ℕ A)) : Type 0 where
  pub long : length new ≡ length old
  pub each : (i : ℕ) (d : Row) (e : Vec ℕ A) → i < length old → (slice_index_or new i e).items ≡ change (slice_index_or rows i d).name (slice_index_or old i e).items

-- the card of a line as it was placed in its source
abbrev pub card_at : (source : List ℕ) → Placed → Card
card_at source placed = card_of (reading (slice_range source placed.start placed.end))

-- each row has the numbers of those cards whose operand names its symbol
pub record Gathered {A : Type 0} (rows : List Row) (cards : List Card) (gathered : List (Vec ℕ A)) : Type 0 where
  pub long : length gathered ≡ length rows
  pub each : (i : ℕ) (d : Row) (e : Vec ℕ A) → i < length rows → (slice_index_or gathered i e).items ≡ naming cards (slice_index_or rows i d).name

-- the lines of rows, of two lists of one length: each row has its numbers
unfoldable pub rows_text : {A : Type 0} → List Row → List (Vec ℕ A) → List ℕ
rows_text [] naming = []
rows_text (row ∷ rows) [] = []
rows_text (row ∷ rows) (numbers ∷ naming) = xref_line (entry_of row) numbers.items ++ rows_text rows naming
