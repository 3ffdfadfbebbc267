-- The line that a source's fault is printed as.
use Rattle.std.specs.Prelude.{ℕ, List, ◌++◌, codes}
use Rattle.std.specs.Fmt.{signed_decimal}
use Rattle.ags_text.specs.Numeral.{decimal7_text}
use Rattle.ags_card.specs.Spelling.{card_fault_text}
use Rattle.ags_places.specs.declared.source_error.PlaceFault.{PlaceFault}
use Rattle.ags_places.specs.declared.source_error.PlaceFault.TheVariants.{SymbolTwice, UndefinedEarly, PlaceRange}
use Rattle.ags_places.specs.declared.source_error.SourceError.{SourceError}
use Rattle.ags_places.specs.declared.source_error.SourceKind.{SourceKind}
use Rattle.ags_places.specs.declared.source_error.SourceKind.TheVariants.{Card, Place, Word}
use Rattle.ags_places.specs.declared.source_error.WordFault.{WordFault}
use Rattle.ags_places.specs.declared.source_error.WordFault.TheVariants.{Undefined, AddressRange, ValueRange, PlaceTwice}

-- A fault's number and its name; after them the first card where two cards are at odds, and the value where it is out of range.
abbrev pub place_fault_text : PlaceFault → List ℕ
place_fault_text (SymbolTwice first) = codes "10 SymbolTwice " ++ decimal7_text first
place_fault_text UndefinedEarly = codes "11 UndefinedEarly"
place_fault_text PlaceRange = codes "12 PlaceRange"

abbrev pub word_fault_text : WordFault → List ℕ
word_fault_text Undefined = codes "13 Undefined"
word_fault_text (AddressRange value) = codes "14 AddressRange " ++ signed_decimal value
word_fault_text ValueRange = codes "15 ValueRange"
word_fault_text (PlaceTwice first) = codes "16 PlaceTwice " ++ decimal7_text first

abbrev pub kind_text : SourceKind → List ℕ
kind_text (Card fault) = card_fault_text fault
kind_text (Place fault) = place_fault_text fault
kind_text (Word fault) = word_fault_text fault

-- the card's number, and what is wrong with it
abbrev pub fault_text : SourceError → List ℕ
fault_text error = codes "SOURCE CARD " ++ decimal7_text error.card ++ codes " ERROR " ++ kind_text error.kind
