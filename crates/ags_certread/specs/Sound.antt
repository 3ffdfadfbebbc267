-- What is kept is sound by itself: it has its sizes, the rows are few, what is stated of a cell is within its limit, and the kinds
-- came in order. So a certificate comes of it.
use Rattle.std.specs.Prelude.{◌≡◌, ℕ, ◌+◌, ◌<◌, ◌≤◌, false, ◌==◌, List, [], length, get_or, Option, Some, None, is_some, if◌then◌else◌}
use Rattle.std.specs.List.{All}
use Rattle.ags_domain.specs.declared.values.Value.{Value}
use Rattle.ags_row.specs.Cell.{value_among}
use Rattle.ags_row.specs.declared.ats.At.{At as Cell_at}
use Rattle.ags_row.specs.declared.links.Link.{Link}
use Rattle.ags_row.specs.declared.rows.Row.{Row as Row_of}
use Rattle.ags_certtype.specs.Cert.{rows_at}
use Rattle.ags_certtext.specs.declared.kinds.Kind.{Kind}
use Rattle.ags_certtext.specs.declared.kinds.Kind.TheVariants as kind
use Rattle.ags_certtext.specs.declared.statements.RowLine.{RowLine}
use Rattle.ags_certtext.specs.Fault.{is_outside}
use Rattle.ags_certtext.specs.Kind.{kinds_before}
use Rattle.ags_certread.specs.Gathering.{Gathering, IsOpenRow, IsSized, stated}

-- how many kinds have come, with the last
abbrev pub kinds_come : Option Kind → ℕ
kinds_come None = 0
kinds_come (Some last) = kinds_before last + 1

-- how many open rows stand at a location
abbrev pub open_at : Option RowLine → ℕ → ℕ
open_at None location = 0
open_at (Some line) location = if line.location == location then 1 else 0

-- the rows are counted, and few
pub record AreFew (rows : List (Row_of Value)) (line : Option RowLine) (counts : List ℕ) : Type 0 where
  pub most : length rows + (if is_some line then 1 else 0) ≤ 20000
  pub each : (location : ℕ) → rows_at rows location + open_at line location ≡ get_or counts location 0
  pub few : (location : ℕ) → get_or counts location 0 ≤ 512

-- what the cells of a row may hold is within their limits
abbrev pub RowInside : List (Option Value) → Row_of Value → Type 0
RowInside cells row = (address : ℕ) → is_outside (value_among row.at address) (stated cells address) ≡ false

-- what is stated of a cell, at the start or in a row, is within its limit
pub record AreInside (cells init : List (Option Value)) (rows : List (Row_of Value)) (row_cells : List (Cell_at Value)) : Type 0 where
  pub firsts : (address : ℕ) → is_outside (stated init address) (stated cells address) ≡ false
  pub in_rows : All (RowInside cells) rows
  pub in_cells : (address : ℕ) → is_outside (value_among row_cells address) (stated cells address) ≡ false

-- nothing of a later kind was stated, and at the end a row was
pub record IsEarly (last : Option Kind) (init : List (Option Value)) (rows : List (Row_of Value)) (line : Option RowLine) (row_cells : List (Cell_at Value)) (row_link : Option Link) : Type 0 where
  pub no_init : kinds_come last ≤ kinds_come (Some kind.Cell) → (address : ℕ) → stated init address ≡ None
  pub no_rows : kinds_come last ≤ kinds_come (Some kind.May) → rows ≡ []
  pub no_line : kinds_come last ≤ kinds_come (Some kind.May) → line ≡ None
  pub no_cells : line ≡ None → row_cells ≡ []
  pub no_link : line ≡ None → row_link ≡ None
  pub ended : last ≡ Some kind.End → line ≡ None
  pub some_row : last ≡ Some kind.End → 1 ≤ length rows

-- all of it
pub record IsSound (g : Gathering) : Type 0 where
  pub sized : IsSized g
  pub start : g.start < 4096
  pub closable : IsOpenRow g.line g.row_cells g.row_link
  pub few : AreFew g.rows g.line g.counts
  pub inside : AreInside g.cells g.init g.rows g.row_cells
  pub early : IsEarly g.last g.init g.rows g.line g.row_cells g.row_link
