-- A text that is read in one way only.
use Rattle.std.specs.Prelude.{◌≡◌, List, [], ◌∷◌}
use Rattle.ags_text.specs.Line.{LineAt}
use Rattle.ags_text.specs.Reading.{AreReadingsBy}
use Rattle.ags_certtext.specs.Reading.{Reading, IsFirstReading, IsReading, AreReadings}

-- the lines have no two lists of readings as further lines
abbrev pub HaveNoTwoReadings : List LineAt → Type 0
HaveNoTwoReadings lines = (one other : List Reading) → AreReadingsBy IsReading lines one → AreReadingsBy IsReading lines other → one ≡ other

-- the first of the lines has no two readings
abbrev pub FirstHasNoTwoReadings : List LineAt → Type 0
FirstHasNoTwoReadings [] = Unit {0}
FirstHasNoTwoReadings (line ∷ lines) = (one other : Reading) → IsFirstReading line.bytes one → IsFirstReading line.bytes other → one ≡ other

-- the lines of a text have no two lists of readings
abbrev pub HasNoTwoReadings : List LineAt → Type 0
HasNoTwoReadings lines = (one other : List Reading) → AreReadings lines one → AreReadings lines other → one ≡ other
