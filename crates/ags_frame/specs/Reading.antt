-- What the lines of a text are read as, by its name, its latest version, and what its further lines state.
use Rattle.std.specs.Prelude.{◌≡◌, ℕ, List, [], ◌∷◌, ◌++◌, Option, Some, None}
use Rattle.ags_text.specs.Line.{LineAt}
use Rattle.ags_text.specs.Reading.{AreReadingsBy}
use Rattle.ags_frame.specs.declared.lines.Line.{Line}
use Rattle.ags_frame.specs.declared.lines.Line.TheVariants as further
use Rattle.ags_frame.specs.declared.openings.Opening.{Opening as FirstLine}
use Rattle.ags_frame.specs.declared.openings.Opening.TheVariants as first
use Rattle.ags_frame.specs.Line.{IsSkipped, Spells}
use Rattle.ags_frame.specs.Opening.{IsOpening}

-- What a line is, and what stands after the last one: it opens a text, of a version that is carried on or of another, it makes a
-- statement, it is skipped, or it is none of these; or the text has ended.
pub data Reading (S : Type 0) : Type 0 where
  Opening : ℕ → Reading S
  OtherOpening : Reading S
  Stated : S → Reading S
  Skipped : Reading S
  Malformed : Reading S
  Ended : Reading S

-- the reading of the first line
abbrev pub IsFirstReading : {S : Type 0} → (name : List ℕ) (latest : ℕ) (line : List ℕ) → Reading S → Type 0
IsFirstReading name latest line (Opening version) = IsOpening name latest line (first.Version version)
IsFirstReading name latest line OtherOpening = IsOpening name latest line first.Another
IsFirstReading name latest line Malformed = IsOpening name latest line first.Malformed
IsFirstReading name latest line (Stated statement) = ⊥
IsFirstReading name latest line Skipped = ⊥
IsFirstReading name latest line Ended = ⊥

-- the reading of a further line
abbrev pub IsReading : {S : Type 0} → (States : List ℕ → S → Type 0) → (line : List ℕ) → Reading S → Type 0
IsReading States line (Stated statement) = Spells States line statement
IsReading States line Skipped = IsSkipped line
IsReading {S} States line Malformed = ((statement : S) → Spells States line statement → ⊥) × (IsSkipped line → ⊥)
IsReading States line (Opening version) = ⊥
IsReading States line OtherOpening = ⊥
IsReading States line Ended = ⊥

-- the readings of the lines of a text, one for each
abbrev pub AreLineReadings : {S : Type 0} → (name : List ℕ) (latest : ℕ) (States : List ℕ → S → Type 0) → List LineAt → List (Reading S) → Type 0
AreLineReadings name latest States [] [] = Unit {0}
AreLineReadings name latest States (line ∷ lines) (reading ∷ readings) = IsFirstReading name latest line.bytes reading × AreReadingsBy (IsReading States) lines readings
AreLineReadings name latest States [] (reading ∷ readings) = ⊥
AreLineReadings name latest States (line ∷ lines) [] = ⊥

-- the readings of a text: those of its lines, and its end after them
pub record AreReadings {S : Type 0} (name : List ℕ) (latest : ℕ) (States : List ℕ → S → Type 0) (lines : List LineAt) (readings : List (Reading S)) : Type 0 where
  pub of_lines : List (Reading S)
  pub are : AreLineReadings name latest States lines of_lines
  pub whole : readings ≡ of_lines ++ Ended ∷ []

-- the statement of a reading, where it makes one
abbrev pub statement_of : {S : Type 0} → Reading S → Option S
statement_of (Stated statement) = Some statement
statement_of _ = None

-- the reading of a first line, as it is told
abbrev pub opening_reading : {S : Type 0} → FirstLine → Reading S
opening_reading (first.Version version) = Opening version
opening_reading first.Another = OtherOpening
opening_reading first.Malformed = Malformed

-- the reading of a further line, as it is told
abbrev pub line_reading : {S : Type 0} → Line S → Reading S
line_reading (further.Stated statement) = Stated statement
line_reading further.Skipped = Skipped
line_reading further.Malformed = Malformed
