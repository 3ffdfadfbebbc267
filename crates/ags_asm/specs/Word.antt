-- The words of a source's cards, each card's as a list from its place on, and what is wrong with them. The list S is that of the
-- pairs that fit the cards: here an operand is taken over all of them, also those of later cards.
use Rattle.std.specs.Prelude.{ℕ, zero, suc, ◌+◌, Bool, ◌&&◌, nat_le, nat_lt, if◌then◌else◌, List, [], ◌∷◌, length, map, Option, Some, None, option_map, unwrap_or, is_some, ℤ, unsigned_abs}
use Rattle.std.specs.List.{list_all}
use Rattle.std.specs.Option.{option_or}
use Rattle.ags_text.specs.Fault.{first_fault}
use Rattle.ags_isa.specs.Naming.{order_word}
use Rattle.ags_decimal.specs.Decimal.{Parts, decimal_word}
use Rattle.ags_image.specs.Image.{PlacedWord}
use Rattle.ags_card.specs.declared.cards.Body.{Body}
use Rattle.ags_card.specs.declared.cards.Body.TheVariants.{Comment, Order, Org, Equ, Bss, Bes, Dec, Oct, End}
use Rattle.ags_card.specs.declared.cards.Card.{Card}
use Rattle.ags_symbol.specs.Symbol.{Entry, sum_of}
use Rattle.ags_places.specs.declared.source_error.WordFault.{WordFault}
use Rattle.ags_places.specs.declared.source_error.WordFault.TheVariants.{Undefined, AddressRange, ValueRange, PlaceTwice}
use Rattle.ags_places.specs.Deck.{cards}
use Rattle.ags_places.specs.Place.{count, operand, place}
use Rattle.ags_places.specs.Fault.{is_place}

-- The list `before` of a definition has the cards before one, nearest first.

-- ---- words

-- What the cards of a source have in the memory: for each card, in order, the list of its words, each with its place.
abbrev pub CardWords : Type 0
CardWords = List (List PlacedWord)

-- the word nearest to a decimal's value, and 0 where it doesn't fit, which is a fault
abbrev pub word_of_decimal : Parts → ℕ
word_of_decimal number = unwrap_or (decimal_word number) 0

-- those of decimals
abbrev pub decimal_words : List Parts → List ℕ
decimal_words numbers = map word_of_decimal numbers

-- whether each of them fits
abbrev pub all_fit : List Parts → Bool
all_fit numbers = list_all (λ number. is_some (decimal_word number)) numbers

-- The words of a card at its place, by the table of codes: of an order its code, its index and the address that its operand comes
-- to, of a DEC the words nearest to its values, of an OCT its own. A symbol that isn't defined counts as 0 in the address, and a DEC's
-- word is 0 where it doesn't fit.
abbrev pub words_at : List ℕ → List Entry → ℕ → Body → List ℕ
words_at codes S at Comment = []
words_at codes S at (Order order terms indexed) = order_word codes order indexed (unsigned_abs (operand S at terms)) ∷ []
words_at codes S at (Org terms) = []
words_at codes S at (Equ terms) = []
words_at codes S at (Bss terms) = []
words_at codes S at (Bes terms) = []
words_at codes S at (Dec numbers) = decimal_words numbers
words_at codes S at (Oct words) = words
words_at codes S at End = []

-- words at a place and those after it
abbrev pub placed_from : ℕ → List ℕ → List PlacedWord
placed_from at [] = []
placed_from at (word ∷ words) = record { place = at; word = word } ∷ placed_from (at + 1) words

-- the words of a card, each with its place
abbrev pub definition : List ℕ → List Entry → List Card → Card → List PlacedWord
definition codes S before card = placed_from (place S before) (words_at codes S (place S before) card.body)

-- the words of the cards that follow those before, one list for each card
unfoldable pub definitions_after : List ℕ → List Entry → List Card → List Card → CardWords
definitions_after codes S before [] = []
definitions_after codes S before (card ∷ cards) = definition codes S before card ∷ definitions_after codes S (card ∷ before) cards

-- the words of the cards, one list for each card
abbrev pub definitions : List ℕ → List Entry → List Card → CardWords
definitions codes S cards = definitions_after codes S [] cards

-- ---- faults of the phase of words

-- an order's operand with a symbol that no card defines, or one that is no address
abbrev pub address_fault : Option ℤ → Option WordFault
address_fault None = Some Undefined
address_fault (Some value) = if is_place value then None else Some (AddressRange value)

-- what is wrong with a card's words at its place
abbrev pub word_fault_at : List Entry → ℕ → Body → Option WordFault
word_fault_at S at Comment = None
word_fault_at S at (Order order terms indexed) = address_fault (sum_of S at terms)
word_fault_at S at (Org terms) = None
word_fault_at S at (Equ terms) = None
word_fault_at S at (Bss terms) = None
word_fault_at S at (Bes terms) = None
word_fault_at S at (Dec numbers) = if all_fit numbers then None else Some ValueRange
word_fault_at S at (Oct words) = None
word_fault_at S at End = None

-- whether a place is one of so many from a place on
abbrev pub is_among : ℕ → (at many : ℕ) → Bool
is_among q at many = nat_le at q && nat_lt q (at + many)

-- the number of the nearest card before that has a word at the place
unfoldable pub owner : List Entry → ℕ → List Card → Option ℕ
owner S q [] = None
owner S q (card ∷ before) = if is_among q (place S before) (count card.body) then Some (length before + 1) else owner S q before

-- of so many places from one on the least that is owned, told by its owner
abbrev pub taken_from : (ℕ → Option ℕ) → (at many : ℕ) → Option WordFault
taken_from owned at zero = None
taken_from owned at (suc many) = option_or (option_map PlaceTwice (owned at)) (taken_from owned (at + 1) many)

-- an earlier card has a word at a place of this one: of its places the least that is taken counts
abbrev pub taken : List Entry → List Card → Card → Option WordFault
taken S before card = taken_from (λ q. owner S q before) (place S before) (count card.body)

-- the fault of a card after those before it: what is wrong with its words comes before that a place is taken
abbrev pub word_fault : List Entry → List Card → Card → Option WordFault
word_fault S before card = option_or (word_fault_at S (place S before) card.body) (taken S before card)

-- the first fault of a source in the phase of words, where S fits its cards
abbrev pub first_word_fault : List Entry → List ℕ → Option (ℕ × WordFault)
first_word_fault S text = first_fault (word_fault S) [] (cards text)
