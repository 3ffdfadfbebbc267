-- What a text of lines says for a machine's registers: the certificate that it is, or its first fault.
use Rattle.std.specs.Prelude.{◌≡◌, ℕ, ◌<◌, ◌==◌, List, [], ◌∷◌, Option, Some, None}
use Rattle.std.specs.List.{list_any, filter_map}
use Rattle.ags_text.specs.Fault.{first_fault}
use Rattle.ags_text.specs.Line.{lines_of}
use Rattle.ags_frame.specs.Reading.{statement_of}
use Rattle.ags_domain.specs.Domain.{IsFull}
use Rattle.ags_domain.specs.Value.{value_meaning}
use Rattle.ags_domain.specs.declared.values.Value.{Value}
use Rattle.ags_ports.specs.Port.{Registers}
use Rattle.ags_row.specs.Cell.{value_among}
use Rattle.ags_row.specs.Limit.{Limiting, AreLimits, cell_limit, input_limit, output_limit, is_named}
use Rattle.ags_row.specs.declared.links.Link.{Link}
use Rattle.ags_row.specs.declared.rows.Row.{Row}
use Rattle.ags_certtype.specs.Cert.{Stated, IsCert, certificate_of}
use Rattle.ags_certtext.specs.declared.cert_error.CertKind.{CertKind}
use Rattle.ags_certtext.specs.declared.cert_error.CertError.{CertError}
use Rattle.ags_certtext.specs.declared.cert_error.CertError.TheVariants.{At as AtLine, NoMemory}
use Rattle.ags_certtext.specs.declared.statements.Entry.{Entry}
use Rattle.ags_certtext.specs.declared.statements.RowLine.{RowLine}
use Rattle.ags_certtext.specs.declared.statements.Statement.{Statement}
use Rattle.ags_certtext.specs.declared.statements.Statement.TheVariants.{Start, Row as RowOf}
use Rattle.ags_certtext.specs.declared.kinds.Table.TheVariants.{Cell, Init, In, Out}
use Rattle.ags_certtext.specs.Statement.{may_place, entries, value_at, row_entries, row_links}
use Rattle.ags_certtext.specs.Reading.{Reading, AreReadings}
use Rattle.ags_certtext.specs.Fault.{reading_fault}

-- the location of START, and 4000 octal where there is none
abbrev pub start_of : List Statement → ℕ
start_of [] = 2048
start_of (Start location ∷ statements) = location
start_of (_ ∷ statements) = start_of statements

-- the limit is what is stated, and every word where nothing is
abbrev pub IsLimit : Option Value → Value → Type 0
IsLimit (Some value) limit = limit ≡ value
IsLimit None limit = IsFull value_meaning limit

-- the limits and the named places are those that are stated, and full and not named where nothing is
pub record LimitsAreStated (statements : List Statement) (limits : Limiting Value) : Type 0 where
  pub tables : AreLimits limits
  pub cells : (address : ℕ) → address < 2048 → IsLimit (value_at (entries Cell statements) address) (cell_limit limits address)
  pub inputs : (address : ℕ) → address < 4096 → IsLimit (value_at (entries In statements) address) (input_limit limits address)
  pub outputs : (address : ℕ) → address < 4096 → IsLimit (value_at (entries Out statements) address) (output_limit limits address)
  pub places : (location : ℕ) → location < 4096
      → is_named limits location ≡ list_any (λ (place : ℕ). place == location) (filter_map may_place statements)
  pub every : IsFull value_meaning limits.every

-- a row with the entries of its AT lines and the links of its LINK lines, in their order
pub record RowOfLines : Type 0 where
  pub line : RowLine
  pub cells : List Entry
  pub links : List Link

-- each row with the AT and LINK lines after it
abbrev pub rows_of : List Statement → List RowOfLines
rows_of [] = []
rows_of (RowOf line ∷ statements) = record { line = line; cells = row_entries statements; links = row_links statements } ∷ rows_of statements
rows_of (_ ∷ statements) = rows_of statements

-- the link is that of the LINK lines, of which there is one at most; there is none where they are none
abbrev pub IsLinkOf : List Link → Option Link → Type 0
IsLinkOf [] link = link ≡ None
IsLinkOf (only ∷ []) link = link ≡ Some only
IsLinkOf (first ∷ second ∷ links) link = ⊥

-- The row is the one that its lines state. Its cells are those of the AT lines, whose order says nothing, and its link that of the LINK line.
pub record IsRowOfLines (lines : RowOfLines) (row : Row Value) : Type 0 where
  pub location : row.location ≡ lines.line.location
  pub a : Some row.a ≡ lines.line.a
  pub q : Some row.q ≡ lines.line.q
  pub x : row.x ≡ lines.line.x
  pub v : row.v ≡ lines.line.v
  pub cells : (address : ℕ) → value_among row.at address ≡ value_at lines.cells address
  pub link : IsLinkOf lines.links row.link

-- the rows are those of the lines, in order
abbrev pub AreRowsOf : List RowOfLines → List (Row Value) → Type 0
AreRowsOf [] [] = Unit {0}
AreRowsOf (lines ∷ others) (row ∷ rows) = IsRowOfLines lines row × AreRowsOf others rows
AreRowsOf [] (row ∷ rows) = ⊥
AreRowsOf (lines ∷ others) [] = ⊥

-- the certificate is what the statements say
pub record IsWhatIsStated (statements : List Statement) (cert : Stated) : Type 0 where
  pub is_cert : IsCert cert
  pub start : cert.start ≡ start_of statements
  pub limits : LimitsAreStated statements cert.limits
  pub init : (address : ℕ) → address < 2048 → (certificate_of cert).init address ≡ value_at (entries Init statements) address
  pub rows : AreRowsOf (rows_of statements) cert.rows

-- The text is a certificate for the registers, without a fault, and this is the certificate.
pub record IsCertOf (ports : Registers) (text : List ℕ) (cert : Stated) : Type 0 where
  pub readings : List Reading
  pub are_readings : AreReadings (lines_of text) readings
  pub faultless : first_fault (reading_fault ports) [] readings ≡ None
  pub is_stated : IsWhatIsStated (filter_map statement_of readings) cert

-- the text's first faulty line is this one, counted from 1, with this fault; where END is missing it is the line after the last
pub record IsFaultyCert (ports : Registers) (text : List ℕ) (line : ℕ) (kind : CertKind) : Type 0 where
  pub readings : List Reading
  pub are_readings : AreReadings (lines_of text) readings
  pub first : first_fault (reading_fault ports) [] readings ≡ Some (line, kind)

-- why a text was not read, where it was not want of memory
abbrev pub IsRefused : Registers → List ℕ → CertError → Type 0
IsRefused ports text (AtLine line kind) = IsFaultyCert ports text line kind
IsRefused ports text NoMemory = Unit {0}
