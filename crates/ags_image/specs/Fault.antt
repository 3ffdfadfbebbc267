-- The first fault of the lines of a text.
use Rattle.std.specs.Prelude.{◌≡◌, ℕ, Bool, List, [], Option, Some, None, reverse, ◌==◌, if◌then◌else◌}
use Rattle.std.specs.List.{list_any}
use Rattle.ags_text.specs.Fault.{first_fault}
use Rattle.ags_image.specs.Image.{PlacedWord}
use Rattle.ags_image.specs.Form.{Form, words_of}
use Rattle.ags_image.specs.declared.reading.ReadError.{ReadError}
use Rattle.ags_image.specs.declared.reading.ReadError.TheVariants.{BadLine, PlaceTwice, NoMemory}

-- what is wrong with a line: it hasn't the form, or an earlier line put a word at its place
pub data LineFault : Type 0 where
  Misshapen : LineFault
  Twice : (place : ℕ) → LineFault

-- one of the words is put at that place
abbrev pub is_taken : List PlacedWord → ℕ → Bool
is_taken words place = list_any (λ placed. placed.place == place) words

-- the fault of what a line says, after lines that put these words
abbrev pub fault_behind : List PlacedWord → Option (Option PlacedWord) → Option LineFault
fault_behind words None = Some Misshapen
fault_behind words (Some None) = None
fault_behind words (Some (Some placed)) = if is_taken words placed.place then Some (Twice placed.place) else None

-- the fault of a line after those before it, nearest first
abbrev pub line_fault : Form → List (List ℕ) → List ℕ → Option LineFault
line_fault form before line = fault_behind (words_of form (reverse before)) (form line)

-- the number, counted from 1, and the fault of the first line that has one
abbrev pub first_line_fault : Form → List (List ℕ) → Option (ℕ × LineFault)
first_line_fault form lines = first_fault (line_fault form) [] lines

-- what the error of a text says: that is the first fault of its lines
abbrev pub IsFaultOf : Form → List (List ℕ) → ReadError → Type 0
IsFaultOf form lines (BadLine line) = first_line_fault form lines ≡ Some (line, Misshapen)
IsFaultOf form lines (PlaceTwice line location) = first_line_fault form lines ≡ Some (line, Twice location)
IsFaultOf form lines NoMemory = Unit {0}
