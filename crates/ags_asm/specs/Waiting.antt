-- Orders that wait for a symbol, and what they come to under the pairs that fit in the end.
use Rattle.std.specs.Prelude.{◌≡◌, ◌<◌, ◌≤◌, ℕ, Bool, List, [], ◌∷◌, ◌++◌, length, All, map, Option, Some, None, unwrap_or, ℤ, pos, unsigned_abs}
use Rattle.std.specs.Option.{option_or}
use Rattle.ags_text.specs.Fault.{or_later}
use Rattle.ags_isa.specs.declared.orders.Order.{Order}
use Rattle.ags_isa.specs.Naming.{order_word}
use Rattle.ags_image.specs.Image.{PlacedWord}
use Rattle.ags_card.specs.declared.terms.Term.{Term}
use Rattle.ags_card.specs.Term.{HasSmallNumber}
use Rattle.ags_symbol.specs.Bound.{IsAtMost}
use Rattle.ags_symbol.specs.Symbol.{Entry, plus, sum_of}
use Rattle.ags_places.specs.declared.source_error.WordFault.{WordFault}
use Rattle.ags_card.specs.declared.cards.Body.{Body}
use Rattle.ags_asm.specs.Word.{address_fault, word_fault_at, words_at, placed_from}

-- an order whose operand isn't known yet: its card and place, the sum of the terms that are known, and the other terms
pub record Waiting : Type 0 where
  pub card : ℕ
  pub place : ℕ
  pub order : Order
  pub indexed : Bool
  pub sum : ℤ
  pub rest : List Term

-- what its operand comes to
abbrev pub closed_sum : List Entry → Waiting → Option ℤ
closed_sum S waiting = plus (Some waiting.sum) (sum_of S waiting.place waiting.rest)

-- its word at its place
abbrev pub closed_word : List ℕ → List Entry → Waiting → PlacedWord
closed_word codes S waiting = record { place = waiting.place; word = order_word codes waiting.order waiting.indexed (unsigned_abs (unwrap_or (closed_sum S waiting) (pos 0))) }

abbrev pub closed_words : List ℕ → List Entry → List Waiting → List PlacedWord
closed_words codes S all = map (closed_word codes S) all

-- the first fault of orders that waited
abbrev pub closing_fault : List Entry → List Waiting → Option (ℕ × WordFault)
closing_fault S [] = None
closing_fault S (waiting ∷ others) = or_later waiting.card (address_fault (closed_sum S waiting)) (closing_fault S others)

-- a fault with its card's number
abbrev pub numbered : ℕ → Option WordFault → Option (ℕ × WordFault)
numbered number None = None
numbered number (Some fault) = Some (number, fault)

-- What a card of this number makes at this place: words, orders that wait, and a fault that is known at once. Under the pairs that
-- fit in the end it comes to the card's words and to their fault.
pub record IsMade (codes : List ℕ) (S : List Entry) (number at : ℕ) (body : Body) (own : Option WordFault) (words : List ℕ) (new : List Waiting) : Type 0 where
  pub fault : numbered number (word_fault_at S at body) ≡ option_or (closing_fault S new) (numbered number own)
  pub words_are : own ≡ None → placed_from at (words_at codes S at body) ≡ placed_from at words ++ closed_words codes S new

-- the place is one of the memory's, and sums of the terms are small
pub record AreOpen (place : ℕ) (sum : ℤ) (rest : List Term) : Type 0 where
  pub place_small : place < 4096
  pub sum_small : IsAtMost 63999936 sum
  pub few : length rest ≤ 64
  pub numbers : All (λ term. HasSmallNumber term.atom) rest
