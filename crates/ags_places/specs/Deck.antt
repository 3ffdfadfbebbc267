-- The cards of a source: its lines up to the first END, and what each of them is read as.
use Rattle.std.specs.Prelude.{◌≡◌, ◌⊎◌, ℕ, Bool, true, false, if◌then◌else◌, List, [], ◌∷◌, ◌++◌, Result, Ok, Err, None, map}
use Rattle.std.specs.List.{All}
use Rattle.ags_text.specs.Line.{LineAt, lines_of}
use Rattle.ags_card.specs.declared.cards.Body.{Body}
use Rattle.ags_card.specs.declared.cards.Body.TheVariants.{Comment, Order, Org, Equ, Bss, Bes, Dec, Oct, End}
use Rattle.ags_card.specs.declared.cards.Card.{Card}
use Rattle.ags_card.specs.declared.cards.CardFault.{CardFault}
use Rattle.ags_card.specs.Reading.{reading}

-- whether a card ends the deck
abbrev pub is_end : Body → Bool
is_end Comment = false
is_end (Order order terms indexed) = false
is_end (Org terms) = false
is_end (Equ terms) = false
is_end (Bss terms) = false
is_end (Bes terms) = false
is_end (Dec numbers) = false
is_end (Oct words) = false
is_end End = true

-- whether a line is a card that ends the deck; a faulty line is none
abbrev pub ends : Result Card CardFault → Bool
ends (Ok card) = is_end card.body
ends (Err fault) = false

-- the lines up to and with the first that ends the deck, and all of them where none does
unfoldable pub deck : List LineAt → List LineAt
deck [] = []
deck (line ∷ lines) = line ∷ (if ends (reading line.bytes) then [] else deck lines)

-- a line reads as END: it is a card, and that is one
abbrev pub ReadsAsEnd : LineAt → Type 0
ReadsAsEnd line = (card : Card) × (reading line.bytes ≡ Ok card) × (card.body ≡ End)

-- it doesn't
abbrev pub ReadsOn : LineAt → Type 0
ReadsOn line = ReadsAsEnd line → ⊥

-- The second list has the lines of the first up to and with the first one that reads as END, and all of them where none does.
abbrev pub EndsAtFirstEnd : (lines cards : List LineAt) → Type 0
EndsAtFirstEnd lines cards = ((cards ≡ lines) × All ReadsOn lines)
    ⊎ ((front : List LineAt) × (last : LineAt) × (behind : List LineAt) × (lines ≡ front ++ last ∷ behind) × (cards ≡ front ++ last ∷ [])
    × All ReadsOn front × ReadsAsEnd last)

-- The lines of a source's cards. What stands after an END is none of the source.
abbrev pub card_lines : List ℕ → List LineAt
card_lines text = deck (lines_of text)

-- what each line is read as: a card, or its least fault
abbrev pub readings : List LineAt → List (Result Card CardFault)
readings lines = map (λ line. reading line.bytes) lines

-- The card of a line. A faulty line counts as a comment: no answer rests on that, since its fault comes before all that is
-- asked of cards.
abbrev pub card_of : Result Card CardFault → Card
card_of (Ok card) = card
card_of (Err fault) = record { symbol = None; body = Comment }

-- the cards of lines
abbrev pub cards_in : List LineAt → List Card
cards_in lines = map (λ line. card_of (reading line.bytes)) lines

-- the cards of a source
abbrev pub cards : List ℕ → List Card
cards text = cards_in (card_lines text)
