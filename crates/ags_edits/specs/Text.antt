-- What a text of edits says: the edits that it states, or its first fault. Where lines stand before another they are told nearest first.
use Rattle.std.specs.Prelude.{◌≡◌, ℕ, ◌<◌, ◌^◌, ◌||◌, not, nat_le, filter, Bool, true, false, List, [], ◌∷◌, length, Option, Some, None, codes}
use Rattle.ags_frame.specs.Fault.{Faults, has_ended}
use Rattle.ags_statements.specs.Fault.{fault_if}
use Rattle.ags_statements.specs.Text.{IsTextOf, IsFaultyText}
use Rattle.ags_statements.specs.declared.reading.TextError.{TextError}
use Rattle.ags_statements.specs.declared.reading.TextError.TheVariants as text
use Rattle.ags_domain.specs.declared.values.Value.{Value}
use Rattle.ags_row.specs.declared.links.Link.{Link}
use Rattle.ags_row.specs.declared.rows.Row.{Row as RowOf}
use Rattle.ags_certtext.specs.declared.statements.Entry.{Entry}
use Rattle.ags_certtext.specs.Fault.{is_empty, is_fixed}
use Rattle.ags_certtext.specs.Statement.{has_address}
use Rattle.ags_certtext.specs.Text.{IsRowOfLines}
use Rattle.ags_edits.specs.Spelling.{States}
use Rattle.ags_edits.specs.declared.edits.Edit.{Edit}
use Rattle.ags_edits.specs.declared.edits.Edit.TheVariants as edit
use Rattle.ags_edits.specs.declared.edits_errors.EditsError.{EditsError}
use Rattle.ags_edits.specs.declared.edits_errors.EditsError.TheVariants as error
use Rattle.ags_edits.specs.declared.edits_errors.EditsKind.{EditsKind}
use Rattle.ags_edits.specs.declared.edits_errors.EditsKind.TheVariants.{BadLine, Version, Twice, EmptyRange, TooManyAt, TooManyEdits}
use Rattle.ags_edits.specs.declared.statements.EditLine.{EditLine}
use Rattle.ags_edits.specs.declared.statements.EditLine.TheVariants.{Word, Cell, Row, At, Linked, End}

-- the name that a text of edits begins with
abbrev pub edits_name : List ℕ
edits_name = codes "AGSEDIT"

-- ---- what the lines state together

-- a line states an edit of its own: one of a word, a cell or a row
abbrev pub is_edit : EditLine → Bool
is_edit (Word its) = true
is_edit (Cell entry) = true
is_edit (Row its) = true
is_edit _ = false

-- END ends a text
abbrev pub is_end : EditLine → Bool
is_end End = true
is_end _ = false

-- The AT and LINK lines that stand right at the front of the lines: after a row's line they are the row's, and of the lines before one,
-- told nearest first, they are those of the row that it would belong to. Of these the cells, and the links.
abbrev pub row_entries : List EditLine → List Entry
row_entries [] = []
row_entries (At entry ∷ lines) = entry ∷ row_entries lines
row_entries (Linked link ∷ lines) = row_entries lines
row_entries (_ ∷ lines) = []

abbrev pub row_links : List EditLine → List Link
row_links [] = []
row_links (At entry ∷ lines) = row_links lines
row_links (Linked link ∷ lines) = link ∷ row_links lines
row_links (_ ∷ lines) = []

-- the line before these AT and LINK lines is that of a row
abbrev pub is_open : List EditLine → Bool
is_open [] = false
is_open (At entry ∷ before) = is_open before
is_open (Linked link ∷ before) = is_open before
is_open (Row its ∷ before) = true
is_open (_ ∷ before) = false

-- the edit that a line states, where these stand after it
abbrev pub IsEditOf : EditLine → (behind : List EditLine) → Edit → Type 0
IsEditOf (Word its) behind made = made ≡ edit.Word its.location its.word
IsEditOf (Cell entry) behind made = (value : Value) × (entry.value ≡ Some value) × (made ≡ edit.Limit (record { address = entry.address; value = value }))
IsEditOf (Row its) behind made = (new : RowOf Value)
    × IsRowOfLines (record { line = its.new; cells = row_entries behind; links = row_links behind }) new × (made ≡ edit.Row its.row new)
IsEditOf _ behind made = ⊥

-- the list has a first thing, and this is so of it and that of the others
abbrev pub Begins : {T : Type 0} → (T → Type 0) → (List T → Type 0) → List T → Type 0
Begins P Q [] = ⊥
Begins P Q (x ∷ xs) = P x × Q xs

-- the edits are those that the lines state, in order
abbrev pub AreEditsOf : List EditLine → List Edit → Type 0
AreEditsOf [] edits = edits ≡ []
AreEditsOf (Word its ∷ lines) edits = Begins (IsEditOf (Word its) lines) (AreEditsOf lines) edits
AreEditsOf (Cell entry ∷ lines) edits = Begins (IsEditOf (Cell entry) lines) (AreEditsOf lines) edits
AreEditsOf (Row its ∷ lines) edits = Begins (IsEditOf (Row its) lines) (AreEditsOf lines) edits
AreEditsOf (_ ∷ lines) edits = AreEditsOf lines edits

-- ---- faults

-- there is no room for a further edit: there are 10,000
abbrev pub is_full : List EditLine → Bool
is_full before = nat_le 10000 (length (filter is_edit before))

-- the fault of a line that stands before END, given the lines before it: of several the least number is told
abbrev pub line_fault : List EditLine → EditLine → Option EditsKind
line_fault before (Word its) = fault_if (is_full before) TooManyEdits None
line_fault before (Cell entry) =
    fault_if (is_fixed entry.address) BadLine
    (fault_if (is_empty entry.value) EmptyRange
    (fault_if (is_full before) TooManyEdits None))
line_fault before (Row its) =
    fault_if (is_empty its.new.a || is_empty its.new.q) EmptyRange
    (fault_if (is_full before) TooManyEdits None)
line_fault before (At entry) =
    fault_if (not (is_open before) || is_fixed entry.address) BadLine
    (fault_if (has_address (row_entries before) entry.address) Twice
    (fault_if (is_empty entry.value) EmptyRange
    (fault_if (nat_le 64 (length (row_entries before))) TooManyAt None)))
line_fault before (Linked link) =
    fault_if (not (is_open before) || is_fixed link.address) BadLine
    (fault_if (nat_le 1 (length (row_links before))) Twice None)
line_fault before End = None

-- how a text of edits tells faults: nothing stands after END
abbrev pub faults : Faults EditLine EditsKind
faults = record {
  bad_line = BadLine;
  version = Version;
  is_end = is_end;
  fault_after = λ version before line. fault_if (has_ended is_end before) BadLine (line_fault before line);
}

-- ---- the text

-- The text is one of edits, without a fault, and these are the edits.
pub record IsEditsOf (text : List ℕ) (edits : List Edit) : Type 0 where
  pub lines : List EditLine
  pub is_text : IsTextOf edits_name 1 States faults text lines
  pub are_edits : AreEditsOf lines edits

-- the text's first faulty line is this one, counted from 1, with this fault; where END is missing it is the line after the last
abbrev pub IsFaultyEdits : (text : List ℕ) (line : ℕ) (kind : EditsKind) → Type 0
IsFaultyEdits text line kind = IsFaultyText edits_name 1 States faults text line kind

-- why a text was not read, where it was not want of memory
abbrev pub IsRefused : List ℕ → EditsError → Type 0
IsRefused text (error.At line kind) = IsFaultyEdits text line kind
IsRefused text error.NoMemory = Unit {0}

-- the error that a text's fault is told as
abbrev pub error_of : TextError EditsKind → EditsError
error_of (text.At line fault) = error.At line fault
error_of text.NoMemory = error.NoMemory

-- the word is one of 18 bits, and stands at one of the 4096 locations
abbrev pub IsWordOfMemory : (location word : ℕ) → Type 0
IsWordOfMemory location word = (location < 4096) × (word < 2 ^ 18)

-- an edit of a word is one of the memory's, and one of a limit is that of an erasable cell
abbrev pub IsLawful : Edit → Type 0
IsLawful (edit.Word location word) = IsWordOfMemory location word
IsLawful (edit.Limit cell) = cell.address < 2048
IsLawful (edit.Row number new) = Unit {0}
