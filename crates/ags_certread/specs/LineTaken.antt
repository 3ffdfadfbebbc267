-- A line of a certificate that is taken, or its fault, by what is gathered of those before it.
use Rattle.std.specs.Prelude.{◌≡◌, ℕ, List, [], ◌∷◌, Option, Some, None}
use Rattle.ags_text.specs.Line.{LineAt}
use Rattle.ags_text.specs.Reading.{AreReadingsBy}
use Rattle.ags_ports.specs.Port.{Registers}
use Rattle.ags_certtext.specs.declared.cert_error.CertKind.{CertKind}
use Rattle.ags_certtext.specs.declared.cert_error.CertKind.TheVariants.{BadLine, Version}
use Rattle.ags_certtext.specs.declared.cert_error.CertError.{CertError}
use Rattle.ags_certtext.specs.declared.cert_error.CertError.TheVariants.{At as AtLine, NoMemory}
use Rattle.ags_frame.specs.Reading.{Opening, OtherOpening, Stated, Skipped, Malformed, Ended}
use Rattle.ags_certtext.specs.Reading.{Reading, IsReading}
use Rattle.ags_certtext.specs.declared.statements.Statement.{Statement}
use Rattle.ags_certtext.specs.Fault.{fault_in}
use Rattle.ags_certread.specs.Before.{Stands}
use Rattle.ags_certread.specs.Gathering.{Gathering}

-- the fault of a first line by its reading
abbrev pub opening_fault : Reading → Option CertKind
opening_fault (Opening version) = None
opening_fault OtherOpening = Some Version
opening_fault Malformed = Some BadLine
opening_fault (Stated statement) = None
opening_fault Skipped = None
opening_fault Ended = None

-- The statement is taken, whatever the statements are that what is kept stands for: it has no fault after them in a text of the version,
-- which stays, and what is kept then stands for it too.
abbrev pub TakesStatement : Registers → (old : Gathering) → Statement → (new : Gathering) → Type 0
TakesStatement ports old statement new =
    ((before : List Statement) → Stands before old → (fault_in ports old.version before statement ≡ None) × Stands (statement ∷ before) new)
    × (new.version ≡ old.version)

-- the reading of a further line is taken: its statement, if it makes one, is taken
abbrev pub TakesReading : Registers → (old : Gathering) → Reading → (new : Gathering) → Type 0
TakesReading ports old (Stated statement) new = TakesStatement ports old statement new
TakesReading ports old Skipped new = new ≡ old
TakesReading ports old (Opening version) new = ⊥
TakesReading ports old OtherOpening new = ⊥
TakesReading ports old Malformed new = ⊥
TakesReading ports old Ended new = ⊥

-- the line is taken by its reading
abbrev pub TakesLine : Registers → (old : Gathering) → List ℕ → (new : Gathering) → Type 0
TakesLine ports old line new = (reading : Reading) × IsReading line reading × TakesReading ports old reading new

-- the fault of a further line's reading in a text of a version, given the statements before it
abbrev pub further_fault : Registers → (version : ℕ) → List Statement → Reading → Option CertKind
further_fault ports version before (Stated statement) = fault_in ports version before statement
further_fault ports version before Malformed = Some BadLine
further_fault ports version before Skipped = None
further_fault ports version before (Opening other) = None
further_fault ports version before OtherOpening = None
further_fault ports version before Ended = None

-- the reading has this fault, whatever the statements are that what is kept stands for
abbrev pub HasReadingFault : Registers → Gathering → Reading → CertKind → Type 0
HasReadingFault ports g reading kind = (before : List Statement) → Stands before g → further_fault ports g.version before reading ≡ Some kind

-- the error tells the fault of a further line, by its reading, where it isn't want of memory
abbrev pub TellsFault : Registers → (number : ℕ) → Gathering → List ℕ → CertError → Type 0
TellsFault ports number g text (AtLine line kind) =
    (line ≡ number) × ((reading : Reading) × IsReading text reading × HasReadingFault ports g reading kind)
TellsFault ports number g text NoMemory = Unit {0}

-- the error tells the fault of a statement there
abbrev pub TellsStatementFault : Registers → Gathering → Statement → (number : ℕ) → CertError → Type 0
TellsStatementFault ports g statement number (AtLine line kind) = (line ≡ number) × HasReadingFault ports g (Stated statement) kind
TellsStatementFault ports g statement number NoMemory = Unit {0}

-- the lines have readings as further lines, one for each
abbrev pub HaveReadings : List LineAt → Type 0
HaveReadings lines = (readings : List Reading) × AreReadingsBy IsReading lines readings

-- the lines after the first
abbrev pub behind_first : List LineAt → List LineAt
behind_first [] = []
behind_first (line ∷ lines) = lines
