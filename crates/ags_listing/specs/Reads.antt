-- What the bytes of a listing read as.
use Rattle.std.specs.Prelude.{◌≡◌, ℕ, Bool, ◌&&◌, ◌==◌, nat_lt, List, length, take, drop, slice_index, Option, Some, None, if◌then◌else◌}
use Rattle.std.specs.List.{list_all}
use Rattle.ags_image.specs.Image.{PlacedWord}
use Rattle.ags_image.specs.Columns.{placed_in}
use Rattle.ags_image.specs.Fault.{first_line_fault}
use Rattle.ags_image.specs.Fault.LineFault.{Misshapen, Twice}
use Rattle.ags_image.specs.Form.{Form, ReadBy}
use Rattle.ags_image.specs.Lines.{feed_lines}
use Rattle.ags_listing.specs.declared.list_error.ListError.{ListError}
use Rattle.ags_listing.specs.declared.list_error.ListError.TheVariants.{BadLine, PlaceTwice, NoMemory}

-- a decimal digit
abbrev pub is_digit : ℕ → Bool
is_digit b = nat_lt 47 b && nat_lt b 58

-- a byte is a space
abbrev pub is_space : ℕ → Bool
is_space b = b == 32

-- A line has at least 20 bytes: seven digits, and a space in columns 8, 13 and 20. What stands after is not looked at.
unfoldable pub is_ruled : List ℕ → Bool
is_ruled line = nat_lt 19 (length line) && (list_all is_digit (take 7 line)
    && (slice_index line 7 == 32 && (slice_index line 12 == 32 && slice_index line 19 == 32)))

-- digits put a word, and other bytes have no form
abbrev pub put : Option PlacedWord → Option (Option PlacedWord)
put None = None
put (Some placed) = Some (Some placed)

-- the word that the columns of a place and of a word put, where they are octal digits both, and nothing where both are blank
unfoldable pub said : (place word : List ℕ) → Option (Option PlacedWord)
said place word = if list_all is_space place && list_all is_space word then Some None else put (placed_in place word)

-- a line of a listing: its place stands in columns 9 to 12, its word in 14 to 19
unfoldable pub listing_form : Form
listing_form line = if is_ruled line then said (take 4 (drop 8 line)) (take 6 (drop 13 line)) else None

-- The bytes are a listing of that image: each line has the form, no place comes twice, and the image has exactly the words
-- of the lines.
abbrev pub Reads : List ℕ → List (Option ℕ) → Type 0
Reads bytes image = ReadBy listing_form (feed_lines bytes) image

-- the bytes are no listing: that is the first fault of their lines
abbrev pub IsFaultyListing : List ℕ → ListError → Type 0
IsFaultyListing bytes (BadLine line) = first_line_fault listing_form (feed_lines bytes) ≡ Some (line, Misshapen)
IsFaultyListing bytes (PlaceTwice line location) = first_line_fault listing_form (feed_lines bytes) ≡ Some (line, Twice location)
IsFaultyListing bytes NoMemory = ⊥

-- what an error says of a listing: that is the first fault of its lines, unless memory ran out
abbrev pub IsListingFault : List ℕ → ListError → Type 0
IsListingFault bytes (BadLine line) = IsFaultyListing bytes (BadLine line)
IsListingFault bytes (PlaceTwice line location) = IsFaultyListing bytes (PlaceTwice line location)
IsListingFault bytes NoMemory = Unit {0}
