-- How the lines of a text of edits are spelled: forwards from what a line states to the lines that state it. The line of a cell, those
-- after a row's line and the last line are spelled as in a certificate.
use Rattle.std.specs.Prelude.{ℕ, List, [], ◌∷◌, codes}
use Rattle.ags_text.specs.Field.{HasFields}
use Rattle.ags_text.specs.Numeral.{IsDecimal, Writes}
use Rattle.ags_certtext.specs.Spelling.{StatesEntry, StatesLink, StatesRowBehind}
use Rattle.ags_edits.specs.declared.statements.EditLine.{EditLine}
use Rattle.ags_edits.specs.declared.statements.EditLine.TheVariants.{Word, Cell, Row, At, Linked, End}
use Rattle.ags_edits.specs.declared.statements.RowEdit.{RowEdit}
use Rattle.ags_edits.specs.declared.statements.WordEdit.{WordEdit}

-- the line has the keyword WORD, a location of four octal digits and a word of six octal digits
pub record StatesWord (line : List ℕ) (its : WordEdit) : Type 0 where
  pub place : List ℕ
  pub digits : List ℕ
  pub location_is : Writes 8 4 place its.location
  pub word_is : Writes 8 6 digits its.word
  pub fields : HasFields line (codes "WORD" ∷ place ∷ digits ∷ [])

-- the line has the keyword ROW, the row's number, which is a count of one to five digits, and the fields of a row as in a certificate
pub record StatesRowEdit (line : List ℕ) (its : RowEdit) : Type 0 where
  pub number : List ℕ
  pub number_is : IsDecimal 5 number its.row
  pub row_is : StatesRowBehind (codes "ROW" ∷ number ∷ []) line its.new

-- the line states this
abbrev pub States : List ℕ → EditLine → Type 0
States line (Word its) = StatesWord line its
States line (Cell entry) = StatesEntry (codes "CELL") line entry
States line (Row its) = StatesRowEdit line its
States line (At entry) = StatesEntry (codes "AT") line entry
States line (Linked link) = StatesLink line link
States line End = HasFields line (codes "END" ∷ [])
