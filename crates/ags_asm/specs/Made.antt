-- What a card's words are made as.
use Rattle.std.specs.Prelude.{◌≡◌, ℕ, List, [], ◌∷◌, Some, None}
use Rattle.ags_card.specs.declared.cards.Body.{Body}
use Rattle.ags_symbol.specs.Symbol.{Entry}
use Rattle.ags_asm.specs.declared.fix_ups.Made.{Made}
use Rattle.ags_asm.specs.declared.fix_ups.Made.TheVariants.{Word, Waits, Fault}
use Rattle.ags_asm.specs.Waiting.{IsMade}

-- under the pairs that fit in the end a card of this number comes to this
abbrev pub IsMadeAs : (codes : List ℕ) (S : List Entry) (number at : ℕ) → Body → Made → Type 0
IsMadeAs codes S number at body (Word word) = IsMade codes S number at body None (word ∷ []) []
IsMadeAs codes S number at body (Waits fix_up) = IsMade codes S number at body None [] (fix_up ∷ [])
IsMadeAs codes S number at body (Fault fault) = IsMade codes S number at body (Some fault) [] []

-- an order that waits is at this place
abbrev pub WaitsAt : (at : ℕ) → Made → Type 0
WaitsAt at (Word word) = Unit {0}
WaitsAt at (Waits fix_up) = fix_up.place ≡ at
WaitsAt at (Fault fault) = Unit {0}
