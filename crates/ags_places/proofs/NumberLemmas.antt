-- The number of a kind of fault stands first in what is printed of it.
use Rattle.std.proofs.Common.{◌≡◌, ℕ, ◌+◌, ◌/◌, ◌%◌, ◌<◌, List, [], ◌∷◌, ◌++◌, refl, sym, ap, ◌∙◌, codes, arith}
use Rattle.std.specs.Fmt.{decimal, signed_decimal}
use Rattle.std.proofs.lemmas.Fmt.{decimal_digit, decimal_step}
use Rattle.ags_text.specs.Numeral.{decimal7_text}
use Rattle.ags_card.specs.declared.cards.CardFault.{CardFault}
use Rattle.ags_card.specs.declared.cards.CardFault.TheVariants.{BadByte, LongCard, BadSymbol, UnknownOperation, MissingOperand, ExtraOperand, BadExpression, BadDecimal, BadOctal}
use Rattle.ags_card.specs.Spelling.{card_fault_text, fault_number}
use Rattle.ags_places.specs.declared.source_error.PlaceFault.{PlaceFault}
use Rattle.ags_places.specs.declared.source_error.PlaceFault.TheVariants.{SymbolTwice, UndefinedEarly, PlaceRange}
use Rattle.ags_places.specs.declared.source_error.SourceKind.{SourceKind}
use Rattle.ags_places.specs.declared.source_error.SourceKind.TheVariants.{Card, Place, Word}
use Rattle.ags_places.specs.declared.source_error.WordFault.{WordFault}
use Rattle.ags_places.specs.declared.source_error.WordFault.TheVariants.{Undefined, AddressRange, ValueRange, PlaceTwice}
use Rattle.ags_places.specs.FaultText.{kind_text, place_fault_text, word_fault_text}
use Rattle.ags_places.specs.Faulty.{kind_number, place_fault_number, word_fault_number}

-- a text is a number's digits, a blank and a name
abbrev IsNumbered : (text : List ℕ) (number : ℕ) → Type 0
IsNumbered text number = (name : List ℕ) × (text ≡ decimal number ++ codes " " ++ name)

-- the digits of a number, a blank, and a name
named : (number : ℕ) (digits name : List ℕ) → decimal number ≡ digits → digits ++ codes " " ++ name ≡ decimal number ++ codes " " ++ name
named number digits name is = ap (λ (text : List ℕ). text ++ codes " " ++ name) (sym is)

one_digit : (number : ℕ) → number < 10 → decimal number ≡ (48 + number) ∷ []
one_digit number below = decimal_digit number below

-- one and a second digit
two_digits : (second : ℕ) → second < 10 → decimal (10 + second) ≡ 49 ∷ (48 + second) ∷ []
two_digits second below =
    let tens : (10 + second) / 10 ≡ 1 = omega (arith, below) in
    let ones : (10 + second) % 10 ≡ second = omega (arith, below) in
    decimal_step (10 + second) (omega arith) (omega (arith, below)) ∙ rw (tens, ones) (rw (decimal_digit 1 (omega arith)) refl)

card_numbered : (fault : CardFault) → IsNumbered (card_fault_text fault) (fault_number fault)
card_numbered BadByte = (codes "BadByte", named 1 (codes "1") (codes "BadByte") (one_digit 1 (omega arith)))
card_numbered LongCard = (codes "LongCard", named 2 (codes "2") (codes "LongCard") (one_digit 2 (omega arith)))
card_numbered BadSymbol = (codes "BadSymbol", named 3 (codes "3") (codes "BadSymbol") (one_digit 3 (omega arith)))
card_numbered UnknownOperation = (codes "UnknownOperation", named 4 (codes "4") (codes "UnknownOperation") (one_digit 4 (omega arith)))
card_numbered MissingOperand = (codes "MissingOperand", named 5 (codes "5") (codes "MissingOperand") (one_digit 5 (omega arith)))
card_numbered ExtraOperand = (codes "ExtraOperand", named 6 (codes "6") (codes "ExtraOperand") (one_digit 6 (omega arith)))
card_numbered BadExpression = (codes "BadExpression", named 7 (codes "7") (codes "BadExpression") (one_digit 7 (omega arith)))
card_numbered BadDecimal = (codes "BadDecimal", named 8 (codes "8") (codes "BadDecimal") (one_digit 8 (omega arith)))
card_numbered BadOctal = (codes "BadOctal", named 9 (codes "9") (codes "BadOctal") (one_digit 9 (omega arith)))

place_numbered : (fault : PlaceFault) → IsNumbered (place_fault_text fault) (place_fault_number fault)
place_numbered (SymbolTwice first) = (codes "SymbolTwice " ++ decimal7_text first, named 10 (codes "10") (codes "SymbolTwice " ++ decimal7_text first) (two_digits 0 (omega arith)))
place_numbered UndefinedEarly = (codes "UndefinedEarly", named 11 (codes "11") (codes "UndefinedEarly") (two_digits 1 (omega arith)))
place_numbered PlaceRange = (codes "PlaceRange", named 12 (codes "12") (codes "PlaceRange") (two_digits 2 (omega arith)))

word_numbered : (fault : WordFault) → IsNumbered (word_fault_text fault) (word_fault_number fault)
word_numbered Undefined = (codes "Undefined", named 13 (codes "13") (codes "Undefined") (two_digits 3 (omega arith)))
word_numbered (AddressRange value) = (codes "AddressRange " ++ signed_decimal value, named 14 (codes "14") (codes "AddressRange " ++ signed_decimal value) (two_digits 4 (omega arith)))
word_numbered ValueRange = (codes "ValueRange", named 15 (codes "15") (codes "ValueRange") (two_digits 5 (omega arith)))
word_numbered (PlaceTwice first) = (codes "PlaceTwice " ++ decimal7_text first, named 16 (codes "16") (codes "PlaceTwice " ++ decimal7_text first) (two_digits 6 (omega arith)))

pub printed_number : (kind : SourceKind) → (name : List ℕ) × (kind_text kind ≡ decimal (kind_number kind) ++ codes " " ++ name)
printed_number (Card fault) = card_numbered fault
printed_number (Place fault) = place_numbered fault
printed_number (Word fault) = word_numbered fault
