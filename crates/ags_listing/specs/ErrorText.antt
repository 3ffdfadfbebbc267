-- What is printed of a listing's fault.
use Rattle.std.specs.Prelude.{ℕ, List, [], ◌++◌, codes}
use Rattle.std.specs.Fmt.{decimal}
use Rattle.ags_text.specs.Numeral.{octal4_text}
use Rattle.ags_image.specs.declared.reading.ReadError.{ReadError}
use Rattle.ags_image.specs.declared.reading.ReadError.TheVariants as read
use Rattle.ags_listing.specs.declared.list_error.ListError.{ListError}
use Rattle.ags_listing.specs.declared.list_error.ListError.TheVariants.{BadLine, PlaceTwice, NoMemory}

-- a place that comes twice
unfoldable pub twice_text : (place : ℕ) → List ℕ
twice_text place = codes "2 PlaceTwice " ++ octal4_text place

-- the line of a fault, without a line feed; want of memory prints nothing
abbrev pub error_text : ListError → List ℕ
error_text (BadLine line) = codes "LISTING LINE " ++ decimal line ++ codes " ERROR 1 BadLine"
error_text (PlaceTwice line location) = codes "LISTING LINE " ++ decimal line ++ codes " ERROR " ++ twice_text location
error_text NoMemory = []

-- the error of a listing for that of a text
abbrev pub list_error : ReadError → ListError
list_error (read.BadLine line) = BadLine line
list_error (read.PlaceTwice line location) = PlaceTwice line location
list_error read.NoMemory = NoMemory
