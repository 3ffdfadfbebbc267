-- What the lines of a certificate are read as: as those of a text with its name, of which there are the versions 1 and 2, and with what its
-- further lines state.
use Rattle.std.specs.Prelude.{ℕ, List, codes}
use Rattle.ags_text.specs.Line.{LineAt}
use Rattle.ags_frame.specs.Reading.{Reading as ReadingOf, IsFirstReading as IsFirstReadingOf, IsReading as IsReadingOf, AreLineReadings as AreLineReadingsOf, AreReadings as AreReadingsOf}
use Rattle.ags_certtext.specs.declared.statements.Statement.{Statement}
use Rattle.ags_certtext.specs.Spelling.{States}

-- the name that a certificate begins with
abbrev pub cert_name : List ℕ
cert_name = codes "AGSCERT"

-- its latest version
abbrev pub latest_version : ℕ
latest_version = 2

-- what a line is, and what stands after the last one
abbrev pub Reading : Type 0
Reading = ReadingOf Statement

-- the reading of the first line
abbrev pub IsFirstReading : List ℕ → Reading → Type 0
IsFirstReading line reading = IsFirstReadingOf cert_name latest_version line reading

-- the reading of a further line
abbrev pub IsReading : List ℕ → Reading → Type 0
IsReading line reading = IsReadingOf States line reading

-- the readings of the lines of a text, one for each
abbrev pub AreLineReadings : List LineAt → List Reading → Type 0
AreLineReadings lines readings = AreLineReadingsOf cert_name latest_version States lines readings

-- the readings of a text: those of its lines, and its end after them
abbrev pub AreReadings : List LineAt → List Reading → Type 0
AreReadings lines readings = AreReadingsOf cert_name latest_version States lines readings
