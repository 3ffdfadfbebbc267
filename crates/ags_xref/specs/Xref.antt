-- The cross reference of a source.
use Rattle.std.specs.Prelude.{ℕ, ◌-◌, ◌≤◌, List, ◌++◌, length, replicate, codes}
use Rattle.std.specs.Fmt.{signed_decimal}
use Rattle.std.specs.List.{flat_map}
use Rattle.ags_text.specs.Numeral.{decimal7_text}
use Rattle.ags_symbol.specs.Symbol.{Entry}
use Rattle.ags_places.specs.Deck.{cards}
use Rattle.ags_places.specs.Limit.{source_limit}
use Rattle.ags_asm.specs.declared.assembling.Assembled.{Assembled}
use Rattle.ags_asm.specs.Source.{IsAssembled}
use Rattle.ags_xref.specs.Naming.{naming}
use Rattle.ags_xref.specs.Order.{by_name}

-- that many blanks
abbrev pub blanks : ℕ → List ℕ
blanks count = replicate count 32

-- a text at the left of a column of that width
abbrev pub left_in : (width : ℕ) → List ℕ → List ℕ
left_in width text = text ++ blanks (width - length text)

-- and at its right
abbrev pub right_in : (width : ℕ) → List ℕ → List ℕ
right_in width text = blanks (width - length text) ++ text

-- a card's number after a blank
abbrev pub number_text : ℕ → List ℕ
number_text number = codes " " ++ decimal7_text number

-- A symbol's line: its name, its value, the card that defines it, and the cards that name it.
unfoldable pub xref_line : Entry → (naming : List ℕ) → List ℕ
xref_line entry naming =
    left_in 6 entry.name ++ codes " " ++ right_in 7 (signed_decimal entry.value) ++ number_text entry.card ++ flat_map number_text naming ++ codes "\n"

-- the cross reference of a source, of whose symbols these are the pairs: a line for each symbol, ascending by their names
abbrev pub xref_text : (source : List ℕ) → List Entry → List ℕ
xref_text source symbols = flat_map (λ entry. xref_line entry (naming (cards source) entry.name)) (by_name symbols)

-- that was made of the source, which is within its limit, by some table of codes
pub record IsAssemblyOf (source : List ℕ) (made : Assembled) : Type 0 where
  pub short : length source ≤ source_limit
  pub order_codes : List ℕ
  pub assembled : IsAssembled order_codes source made.cards.items made.symbols made.image
