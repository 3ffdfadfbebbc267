-- Where the cards of a source stand, and what its symbols stand for. Both hang together: a place may be set by symbols, and a
-- symbol may stand for a place. So they are said of one list of pairs S, which has to fit the cards.
use Rattle.std.specs.Prelude.{◌≡◌, ℕ, ◌+◌, Bool, true, false, if◌then◌else◌, nat_le, nat_lt, List, [], ◌∷◌, ◌++◌, length, Option, Some, None, unwrap_or, map, ℤ, pos, unsigned_abs}
use Rattle.std.specs.List.{filter}
use Rattle.ags_card.specs.declared.cards.Body.{Body}
use Rattle.ags_card.specs.declared.cards.Body.TheVariants.{Comment, Order, Org, Equ, Bss, Bes, Dec, Oct, End}
use Rattle.ags_card.specs.declared.cards.Card.{Card}
use Rattle.ags_card.specs.declared.terms.Term.{Term}
use Rattle.ags_symbol.specs.Symbol.{Entry, sum_of}

-- The list `before` of a definition has the cards before one, nearest first; their number is that of the last of them.

-- ---- one card, by the pairs of the cards before it and by its place

-- what an operand comes to, and 0 where one of its symbols isn't defined, which is a fault
abbrev pub operand : List Entry → ℕ → List Term → ℤ
operand early at terms = unwrap_or (sum_of early at terms) (pos 0)

-- how many words a card has: an order one, a DEC and an OCT one for each operand
abbrev pub count : Body → ℕ
count Comment = 0
count (Order order terms indexed) = 1
count (Org terms) = 0
count (Equ terms) = 0
count (Bss terms) = 0
count (Bes terms) = 0
count (Dec numbers) = length numbers
count (Oct words) = length words
count End = 0

-- whether a card has words
abbrev pub has_word : Body → Bool
has_word body = nat_lt 0 (count body)

-- the place of a card's first word, where it has some
abbrev pub place_of_word : ℕ → Body → Option ℕ
place_of_word at body = if has_word body then Some at else None

-- how many words of the memory a card takes or passes over
abbrev pub size : List Entry → ℕ → Body → ℕ
size early at Comment = 0
size early at (Order order terms indexed) = 1
size early at (Org terms) = 0
size early at (Equ terms) = 0
size early at (Bss terms) = unsigned_abs (operand early at terms)
size early at (Bes terms) = unsigned_abs (operand early at terms)
size early at (Dec numbers) = length numbers
size early at (Oct words) = length words
size early at End = 0

-- where a card that stands at a place leaves it: an ORG at its operand, every other one after its words
abbrev pub place_after : List Entry → ℕ → Body → ℕ
place_after early at Comment = at
place_after early at (Order order terms indexed) = at + 1
place_after early at (Org terms) = unsigned_abs (operand early at terms)
place_after early at (Equ terms) = at
place_after early at (Bss terms) = at + unsigned_abs (operand early at terms)
place_after early at (Bes terms) = at + unsigned_abs (operand early at terms)
place_after early at (Dec numbers) = at + length numbers
place_after early at (Oct words) = at + length words
place_after early at End = at

-- what the symbol of a card stands for: of an EQU its operand, of an ORG the place that it sets, of a BES the place
-- that it moves to, of every other one its place
abbrev pub symbol_value : List Entry → ℕ → Body → ℤ
symbol_value early at Comment = pos at
symbol_value early at (Order order terms indexed) = pos at
symbol_value early at (Org terms) = pos (unsigned_abs (operand early at terms))
symbol_value early at (Equ terms) = operand early at terms
symbol_value early at (Bss terms) = pos at
symbol_value early at (Bes terms) = pos (at + unsigned_abs (operand early at terms))
symbol_value early at (Dec numbers) = pos at
symbol_value early at (Oct words) = pos at
symbol_value early at End = pos at

-- the pair of a symbol, where there is one, with this value and from the card of this number
abbrev pub pair_of : Option (List ℕ) → ℤ → (number : ℕ) → List Entry
pair_of None value number = []
pair_of (Some name) value number = record { name = name; value = value; card = number } ∷ []

-- ---- all cards, by S

-- the pairs of the first cards, that many
abbrev pub early : List Entry → ℕ → List Entry
early S number = filter (λ entry. nat_le entry.card number) S

-- the place of a card: where the card before it leaves its own, and 0 for the first. Its operands are taken over the pairs of
-- the cards before it alone, and an asterisk in them is its own place before it acts.
unfoldable pub place : List Entry → List Card → ℕ
place S [] = 0
place S (card ∷ before) = place_after (early S (length before)) (place S before) card.body

-- the pairs of the cards that follow those before
unfoldable pub pairs_after : List Entry → List Card → List Card → List Entry
pairs_after S before [] = []
pairs_after S before (card ∷ cards) =
    pair_of card.symbol (symbol_value (early S (length before)) (place S before) card.body) (length before + 1) ++ pairs_after S (card ∷ before) cards

-- S fits the cards: it has one pair for each symbol in a symbol field, in their order, each with the value that the cards before
-- it give it.
abbrev pub Fits : List Entry → List Card → Type 0
Fits S cards = S ≡ pairs_after S [] cards

-- the places of the first words of the cards that follow those before, one entry for each card
unfoldable pub places_after : List Entry → List Card → List Card → List (Option ℕ)
places_after S before [] = []
places_after S before (card ∷ cards) = place_of_word (place S before) card.body ∷ places_after S (card ∷ before) cards

-- the places of the cards' first words, one entry for each card
abbrev pub places : List Entry → List Card → List (Option ℕ)
places S cards = places_after S [] cards

-- how many words the cards have, one number for each card
abbrev pub counts : List Card → List ℕ
counts cards = map (λ card. count card.body) cards

-- ---- a place as a sum

-- whether a card sets the place: an ORG does
abbrev pub sets_place : Body → Bool
sets_place Comment = false
sets_place (Order order terms indexed) = false
sets_place (Org terms) = true
sets_place (Equ terms) = false
sets_place (Bss terms) = false
sets_place (Bes terms) = false
sets_place (Dec numbers) = false
sets_place (Oct words) = false
sets_place End = false

abbrev pub is_org : Card → Bool
is_org card = sets_place card.body

-- the sizes of the cards since those before, nearest first
unfoldable pub sizes : List Entry → (since before : List Card) → ℕ
sizes S [] before = 0
sizes S (card ∷ since) before = sizes S since before + size (early S (length (since ++ before))) (place S (since ++ before)) card.body
