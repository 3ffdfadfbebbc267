-- The first fault of a tape.
use Rattle.std.specs.Prelude.{◌≡◌, ℕ, List, Some}
use Rattle.ags_image.specs.declared.reading.ReadError.{ReadError}
use Rattle.ags_image.specs.declared.reading.ReadError.TheVariants as read
use Rattle.ags_image.specs.Fault.{first_line_fault}
use Rattle.ags_image.specs.Fault.LineFault.{Misshapen, Twice}
use Rattle.ags_image.specs.Lines.{feed_lines}
use Rattle.ags_image.specs.declared.tape_reading.TapeError.{TapeError}
use Rattle.ags_image.specs.declared.tape_reading.TapeError.TheVariants.{BadLine, PlaceTwice, NoMemory}
use Rattle.ags_image.specs.Tape.{tape_form}

-- the bytes are no tape: that is the first fault of their lines
abbrev pub IsFaultyTape : List ℕ → TapeError → Type 0
IsFaultyTape bytes (BadLine line) = first_line_fault tape_form (feed_lines bytes) ≡ Some (line, Misshapen)
IsFaultyTape bytes (PlaceTwice line location) = first_line_fault tape_form (feed_lines bytes) ≡ Some (line, Twice location)
IsFaultyTape bytes NoMemory = ⊥

-- what an error says of a tape: that is the first fault of its lines, unless memory ran out
abbrev pub IsTapeFault : List ℕ → TapeError → Type 0
IsTapeFault bytes (BadLine line) = IsFaultyTape bytes (BadLine line)
IsTapeFault bytes (PlaceTwice line location) = IsFaultyTape bytes (PlaceTwice line location)
IsTapeFault bytes NoMemory = Unit {0}

-- the error of a tape for that of a text
abbrev pub tape_error : ReadError → TapeError
tape_error (read.BadLine line) = BadLine line
tape_error (read.PlaceTwice line location) = PlaceTwice line location
tape_error read.NoMemory = NoMemory
