-- What serves inside: what is gathered of the lines of a text of edits.
use Rattle.std.specs.Prelude.{◌≡◌, ℕ, ◌<◌, nat_le, Bool, List, [], ◌∷◌, ◌++◌, length, reverse, Option, Some, None}
use Rattle.ags_frame.specs.Fault.{has_ended}
use Rattle.ags_statements.specs.Fault.{fault_if}
use Rattle.ags_domain.specs.declared.values.Value.{Value}
use Rattle.ags_row.specs.declared.links.Link.{Link}
use Rattle.ags_row.specs.declared.rows.Row.{Row as RowOf}
use Rattle.ags_certtext.specs.declared.statements.Entry.{Entry}
use Rattle.ags_certtext.specs.declared.statements.RowLine.{RowLine}
use Rattle.ags_certtext.specs.Fault.{is_empty}
use Rattle.ags_certtext.specs.Text.{IsLinkOf}
use Rattle.ags_certread.specs.Before.{AreCells}
use Rattle.ags_certread.specs.Gathering.{has_cell, with_entry}
use Rattle.ags_edits.specs.Text.{Begins, IsWordOfMemory, is_end}
use Rattle.ags_edits.specs.declared.edits.Edit.{Edit}
use Rattle.ags_edits.specs.declared.edits.Edit.TheVariants as edit
use Rattle.ags_edits.specs.declared.edits_errors.EditsKind.{EditsKind}
use Rattle.ags_edits.specs.declared.edits_errors.EditsKind.TheVariants.{Twice, EmptyRange, TooManyAt}
use Rattle.ags_edits.specs.declared.gatherers.Gatherer.{Gatherer}
use Rattle.ags_edits.specs.declared.statements.EditLine.{EditLine}
use Rattle.ags_edits.specs.declared.statements.EditLine.TheVariants.{Word, Cell, Row, At, Linked, End}
use Rattle.ags_edits.specs.declared.statements.RowEdit.{RowEdit}
use Rattle.ags_edits.specs.declared.statements.WordEdit.{WordEdit}

-- ---- a row that grows

-- the row has what its line says, and neither cells nor a link
pub record IsBareRow (line : RowLine) (row : RowOf Value) : Type 0 where
  pub location : row.location ≡ line.location
  pub a : Some row.a ≡ line.a
  pub q : Some row.q ≡ line.q
  pub x : row.x ≡ line.x
  pub v : row.v ≡ line.v
  pub at : row.at ≡ []
  pub link : row.link ≡ None

-- the row is another but for its cells and its link
pub record IsSameBeside (row new : RowOf Value) : Type 0 where
  pub location : new.location ≡ row.location
  pub a : new.a ≡ row.a
  pub q : new.q ≡ row.q
  pub x : new.x ≡ row.x
  pub v : new.v ≡ row.v

-- a row with a further cell
pub record IsWithCell (row : RowOf Value) (its : Entry) (new : RowOf Value) : Type 0 where
  pub beside : IsSameBeside row new
  pub at : new.at ≡ with_entry its its.value row.at
  pub link : new.link ≡ row.link

-- a row with a link
pub record IsWithLink (row : RowOf Value) (its : Link) (new : RowOf Value) : Type 0 where
  pub beside : IsSameBeside row new
  pub at : new.at ≡ row.at
  pub link : new.link ≡ Some its

-- the fault of a further cell of a row
abbrev pub at_fault : RowOf Value → Entry → Option EditsKind
at_fault row its =
    fault_if (has_cell row.at its.address) Twice
    (fault_if (is_empty its.value) EmptyRange
    (fault_if (nat_le 64 (length row.at)) TooManyAt None))

-- ---- the edits of lines

-- the row has what its line says, these cells, nearest first, and the link of these
pub record IsGrown (line : RowLine) (cells : List Entry) (links : List Link) (row : RowOf Value) : Type 0 where
  pub location : row.location ≡ line.location
  pub a : Some row.a ≡ line.a
  pub q : Some row.q ≡ line.q
  pub x : row.x ≡ line.x
  pub v : row.v ≡ line.v
  pub cells_are : AreCells cells row.at
  pub link_is : IsLinkOf links row.link

-- the edit of a row with these cells and links
abbrev pub IsRowMade : RowEdit → List Entry → List Link → Edit → Type 0
IsRowMade its cells links made = (new : RowOf Value) × IsGrown its.new cells links new × (made ≡ edit.Row its.row new)

-- the edit of a word, and that of a cell's limit
abbrev pub IsWordMade : WordEdit → Edit → Type 0
IsWordMade its made = (made ≡ edit.Word its.location its.word) × IsWordOfMemory its.location its.word

abbrev pub IsLimitMade : Entry → Edit → Type 0
IsLimitMade its made = (value : Value) × (its.value ≡ Some value) × (made ≡ edit.Limit (record { address = its.address; value = value })) × (its.address < 2048)

-- The edits, the last first, are those of the lines before, nearest first, where these cells and links stand after them, nearest
-- first too. None of the lines is END.
abbrev pub AreMade : List Entry → List Link → List EditLine → List Edit → Type 0
AreMade cells links [] edits = edits ≡ []
AreMade cells links (Word its ∷ before) edits = Begins (IsWordMade its) (AreMade [] [] before) edits
AreMade cells links (Cell its ∷ before) edits = Begins (IsLimitMade its) (AreMade [] [] before) edits
AreMade cells links (Row its ∷ before) edits = Begins (IsRowMade its cells links) (AreMade [] [] before) edits
AreMade cells links (At entry ∷ before) edits = AreMade (cells ++ entry ∷ []) links before edits
AreMade cells links (Linked link ∷ before) edits = AreMade cells (links ++ link ∷ []) before edits
AreMade cells links (End ∷ before) edits = ⊥

-- the lines without the END that stands nearest
abbrev pub without_end : List EditLine → List EditLine
without_end (End ∷ before) = before
without_end before = before

-- The edits are those of the lines so far, and it is noted whether the last line is END.
pub record Gathered (edits : List Edit) (ended : Bool) (before : List EditLine) : Type 0 where
  pub are : AreMade [] [] (without_end before) (reverse edits)
  pub ended_is : ended ≡ has_ended is_end before

-- so is this gatherer
abbrev pub gathered_of : Gatherer → List EditLine → Type 0
gathered_of g before = Gathered g.edits.items g.ended before

-- ---- the last edit

-- the edit isn't that of a row
abbrev pub IsNoRow : Edit → Type 0
IsNoRow (edit.Row number row) = ⊥
IsNoRow _ = Unit {0}

-- the last of some edits, taken away, is that of a row; or there is none, or it is another
abbrev pub IsLast : (edits : List Edit) → Option (ℕ × RowOf Value) → (others : List Edit) → Type 0
IsLast edits (Some last) others = edits ≡ others ++ edit.Row last.0 last.1 ∷ []
IsLast [] None others = Unit {0}
IsLast (first ∷ edits) None others = (init : List Edit) (last : Edit) → first ∷ edits ≡ init ++ last ∷ [] → IsNoRow last
