-- What is kept stands for the statements so far, told nearest first.
use Rattle.std.specs.Prelude.{◌≡◌, ℕ, Bool, false, ◌==◌, List, [], ◌∷◌, length, reverse, get_or, Option, Some, None, is_some}
use Rattle.std.specs.List.{list_any, filter_map}
use Rattle.ags_domain.specs.declared.values.Value.{Value}
use Rattle.ags_row.specs.Cell.{value_among}
use Rattle.ags_row.specs.declared.ats.At.{At as Cell_at}
use Rattle.ags_row.specs.declared.links.Link.{Link}
use Rattle.ags_row.specs.declared.rows.Row.{Row as Row_of}
use Rattle.ags_certtext.specs.declared.kinds.Kind.TheVariants as kind
use Rattle.ags_certtext.specs.declared.statements.Entry.{Entry}
use Rattle.ags_certtext.specs.declared.statements.RowLine.{RowLine}
use Rattle.ags_certtext.specs.declared.statements.Statement.{Statement}
use Rattle.ags_certtext.specs.declared.statements.Statement.TheVariants.{Entry as EntryOf, Row, Linked}
use Rattle.ags_certtext.specs.declared.kinds.Table.TheVariants.{Cell, Init, In, Out, At}
use Rattle.ags_certtext.specs.Fault.{rows_at}
use Rattle.ags_certtext.specs.Kind.{last_kind}
use Rattle.ags_certtext.specs.Statement.{may_place, row_line, entries, has_address, row_entries, row_links, value_at}
use Rattle.ags_certtext.specs.Text.{RowOfLines, AreRowsOf, IsLinkOf, start_of}
use Rattle.ags_certread.specs.Gathering.{Gathering, has_cell, row_count, stated}
use Rattle.ags_certread.specs.Sound.{IsSound}

-- ---- tables

-- no address stands twice among the entries
abbrev pub Distinct : List Entry → Type 0
Distinct [] = Unit {0}
Distinct (entry ∷ others) = (has_address others entry.address ≡ false) × Distinct others

-- the table has what is found at each address, where no address stands twice
pub record IsTable (found : List Entry) (table : List (Option Value)) : Type 0 where
  pub at : (address : ℕ) → stated table address ≡ value_at found address
  pub has : (address : ℕ) → is_some (stated table address) ≡ has_address found address
  pub distinct : Distinct found

-- the cells have what is found at each address
pub record AreCells (found : List Entry) (cells : List (Cell_at Value)) : Type 0 where
  pub at : (address : ℕ) → value_among cells address ≡ value_at found address
  pub has : (address : ℕ) → has_cell cells address ≡ has_address found address
  pub count : length cells ≡ length found
  pub distinct : Distinct found

-- ---- rows

-- the rows of statements, where these cells and links stand after them
abbrev pub rows_back : List Entry → List Link → List Statement → List RowOfLines
rows_back cells links [] = []
rows_back cells links (EntryOf At entry ∷ before) = rows_back (entry ∷ cells) links before
rows_back cells links (Linked link ∷ before) = rows_back cells (link ∷ links) before
rows_back cells links (Row line ∷ before) = record { line = line; cells = cells; links = links } ∷ rows_back [] [] before
rows_back cells links (_ ∷ before) = rows_back [] [] before

-- the line of the row that is open after the statements
abbrev pub open_line : List Statement → Option RowLine
open_line [] = None
open_line (EntryOf At entry ∷ before) = open_line before
open_line (Linked link ∷ before) = open_line before
open_line (Row line ∷ before) = Some line
open_line (_ ∷ before) = None

-- the rows before it
abbrev pub closed_rows : List Statement → List RowOfLines
closed_rows [] = []
closed_rows (EntryOf At entry ∷ before) = closed_rows before
closed_rows (Linked link ∷ before) = closed_rows before
closed_rows (Row line ∷ before) = rows_back [] [] before
closed_rows (_ ∷ before) = rows_back [] [] before

-- what is kept of the rows of some statements
pub record AreGatheredRows (before : List Statement) (rows : List (Row_of Value)) (kept : Option RowLine) (kept_cells : List (Cell_at Value)) (kept_link : Option Link) : Type 0 where
  pub line : kept ≡ open_line before
  pub cells : AreCells (row_entries before) kept_cells
  pub link : IsLinkOf (row_links before) kept_link
  pub closed : AreRowsOf (reverse (closed_rows before)) rows

-- ---- all of it

-- the places are those that the statements name
abbrev pub AreNamed : List Statement → List Bool → Type 0
AreNamed before places = (location : ℕ) → get_or places location false ≡ list_any (λ (other : ℕ). other == location) (filter_map may_place before)

-- the counts are those of the rows that the statements begin
abbrev pub AreCounted : List Statement → List ℕ → Type 0
AreCounted before counts = (location : ℕ) → get_or counts location 0 ≡ length (rows_at before location)

-- the tables have what the statements enter in them
pub record AreEntered (before : List Statement) (g : Gathering) : Type 0 where
  pub cells : IsTable (entries Cell before) g.cells
  pub init : IsTable (entries Init before) g.init
  pub inputs : IsTable (entries In before) g.inputs
  pub outputs : IsTable (entries Out before) g.outputs

-- what is kept beside the rows is what the statements state
pub record AreTables (before : List Statement) (g : Gathering) : Type 0 where
  pub last : g.last ≡ last_kind before
  pub start : g.start ≡ start_of (reverse before)
  pub entered : AreEntered before g
  pub places : AreNamed before g.places
  pub counts : AreCounted before g.counts

-- what is kept stands for the statements
pub record Gathered (before : List Statement) (g : Gathering) : Type 0 where
  pub tables : AreTables before g
  pub rows : AreGatheredRows before g.rows g.line g.row_cells g.row_link
  pub count : row_count g ≡ length (filter_map row_line before)
  pub some_line : g.last ≡ Some kind.Row → g.line ≡ None → ⊥

-- so it does, and is sound
pub record Stands (before : List Statement) (g : Gathering) : Type 0 where
  pub gathered : Gathered before g
  pub sound : IsSound g

-- what is kept stands for some statements, whatever they are
abbrev pub IsOfStatements : Gathering → Type 0
IsOfStatements g = (before : List Statement) × Stands before g
