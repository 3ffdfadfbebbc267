-- What serves inside: what stands after the keyword of a line, as it is read.
use Rattle.std.specs.Prelude.{◌≡◌, ℕ, List, Option, Some, None, codes}
use Rattle.ags_text.specs.Field.{AreBlanks, next_field, behind_field}
use Rattle.ags_text.specs.Numeral.{IsDecimal, Writes}
use Rattle.ags_certtext.specs.Operand.{IsRow}
use Rattle.ags_certtext.specs.Spelling.{States as StatesInCert}
use Rattle.ags_certtext.specs.declared.statements.Statement.{Statement}
use Rattle.ags_certtext.specs.declared.statements.Statement.TheVariants as cert
use Rattle.ags_certtext.specs.declared.kinds.Table.TheVariants as table
use Rattle.ags_edits.specs.declared.keywords.Keyword.{Keyword}
use Rattle.ags_edits.specs.declared.keywords.Keyword.TheVariants as keyword
use Rattle.ags_edits.specs.declared.statements.EditLine.{EditLine}
use Rattle.ags_edits.specs.declared.statements.EditLine.TheVariants.{Word, Cell, Row, At, Linked, End}
use Rattle.ags_edits.specs.declared.statements.RowEdit.{RowEdit}
use Rattle.ags_edits.specs.declared.statements.WordEdit.{WordEdit}

-- a location and a word, and nothing after them
pub record IsWordEdit (text : List ℕ) (its : WordEdit) : Type 0 where
  pub location_is : Writes 8 4 (next_field text) its.location
  pub word_is : Writes 8 6 (next_field (behind_field text)) its.word
  pub ends : AreBlanks (behind_field (behind_field text))

-- a row's number and a row
pub record IsRowEdit (text : List ℕ) (its : RowEdit) : Type 0 where
  pub number_is : IsDecimal 5 (next_field text) its.row
  pub row_is : IsRow (behind_field text) its.new

-- the first field of a line that certificates have in another form, or not at all
abbrev pub keyword_name : Keyword → List ℕ
keyword_name keyword.Word = codes "WORD"
keyword_name keyword.Row = codes "ROW"

-- what stands after a keyword states this
abbrev pub AreOperands : Keyword → (text : List ℕ) → EditLine → Type 0
AreOperands keyword.Word text its = (word : WordEdit) × IsWordEdit text word × (its ≡ Word word)
AreOperands keyword.Row text its = (row : RowEdit) × IsRowEdit text row × (its ≡ Row row)

-- what a line of a text of edits states where it states this in a certificate, if it may stand in both
abbrev pub line_of : Statement → Option EditLine
line_of (cert.Entry table.Cell entry) = Some (Cell entry)
line_of (cert.Entry table.At entry) = Some (At entry)
line_of (cert.Linked link) = Some (Linked link)
line_of cert.End = Some End
line_of _ = None

-- the line states in a certificate what it states here
abbrev pub IsShared : List ℕ → EditLine → Type 0
IsShared line its = (statement : Statement) × StatesInCert line statement × (line_of statement ≡ Some its)
