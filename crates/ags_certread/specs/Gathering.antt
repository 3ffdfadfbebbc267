-- What is kept of the statements of a certificate while its lines are read.
use Rattle.std.specs.Prelude.{◌≡◌, ℕ, ◌+◌, ◌<◌, ◌≤◌, Bool, true, false, ◌==◌, nat_le, List, [], ◌∷◌, ◌++◌, length, get_or, set, replicate, Option, Some, None, is_some, IfSome, if◌then◌else◌}
use Rattle.std.specs.List.{All, list_any, insert, position_or_len}
use Rattle.ags_domain.specs.Domain.{IsFull}
use Rattle.ags_domain.specs.Value.{value_meaning}
use Rattle.ags_domain.specs.declared.values.Value.{Value}
use Rattle.ags_row.specs.Cell.{cells_ascend, value_among}
use Rattle.ags_row.specs.Limit.{Limiting, AreLimits, cell_limit, input_limit, output_limit, is_named}
use Rattle.ags_row.specs.Link.{is_link}
use Rattle.ags_row.specs.declared.ats.At.{At as Cell_at}
use Rattle.ags_row.specs.declared.links.Link.{Link}
use Rattle.ags_row.specs.declared.rows.Row.{Row as Row_of}
use Rattle.ags_certtype.specs.Cert.{Stated, IsCert, rows_at}
use Rattle.ags_certtext.specs.declared.statements.Entry.{Entry}
use Rattle.ags_certtext.specs.declared.statements.RowLine.{RowLine}
use Rattle.ags_certtext.specs.declared.statements.Statement.{Statement}
use Rattle.ags_certtext.specs.declared.statements.Statement.TheVariants.{Start, Entry as EntryOf, May, Row, Linked, End}
use Rattle.ags_certtext.specs.declared.kinds.Table.{Table}
use Rattle.ags_certtext.specs.declared.kinds.Table.TheVariants.{Cell, Init, In, Out, At}
use Rattle.ags_certtext.specs.declared.kinds.Kind.{Kind}
use Rattle.ags_certtext.specs.Kind.{kind_of}
use Rattle.ags_certtext.specs.Statement.{IsRowLine}
use Rattle.ags_certtext.specs.Fault.{is_outside}
use Rattle.ags_certtext.specs.Text.{IsLimit}
use Rattle.ags_certread.specs.declared.gatherer.Gatherer.{Gatherer}

-- What is kept: the version that the first line opened; the last kind; the start; for each address what is stated there, by table; the
-- named places; the rows before the one that may be open, and how many stand at each location with it; and of the open row its line,
-- its cells, which ascend, and its link.
pub record Gathering : Type 0 where
  pub version : ℕ
  pub last : Option Kind
  pub start : ℕ
  pub cells : List (Option Value)
  pub init : List (Option Value)
  pub inputs : List (Option Value)
  pub outputs : List (Option Value)
  pub places : List Bool
  pub rows : List (Row_of Value)
  pub counts : List ℕ
  pub line : Option RowLine
  pub row_cells : List (Cell_at Value)
  pub row_link : Option Link

-- what a gatherer keeps
abbrev pub gathering_of : Gatherer → Gathering
gathering_of g = record {
  version = g.version;
  last = g.last;
  start = g.start;
  cells = g.cells.items;
  init = g.init.items;
  inputs = g.inputs.items;
  outputs = g.outputs.items;
  places = g.places.items;
  rows = g.rows.items;
  counts = g.counts.items;
  line = g.line;
  row_cells = g.row_cells.items;
  row_link = g.row_link;
}

-- the tables have their sizes
pub record IsSized (g : Gathering) : Type 0 where
  pub cells : length g.cells ≡ 2048
  pub init : length g.init ≡ 2048
  pub inputs : length g.inputs ≡ 4096
  pub outputs : length g.outputs ≡ 4096
  pub places : length g.places ≡ 4096
  pub counts : length g.counts ≡ 4096

-- the rows are few enough to be counted
abbrev pub IsCounting : Gathering → Type 0
IsCounting g = length g.rows ≤ 20000

-- nothing is stated yet, and no version is opened
abbrev pub nothing_stated : Gathering
nothing_stated = record {
  version = 0;
  last = None;
  start = 2048;
  cells = replicate 2048 None;
  init = replicate 2048 None;
  inputs = replicate 4096 None;
  outputs = replicate 4096 None;
  places = replicate 4096 false;
  rows = [];
  counts = replicate 4096 0;
  line = None;
  row_cells = [];
  row_link = None;
}

-- nothing is stated after a first line that opened a version
abbrev pub opened : (version : ℕ) → Gathering
opened version = record nothing_stated { version = version }

-- ---- what is asked of it

-- what is stated at an address
abbrev pub stated : List (Option Value) → ℕ → Option Value
stated table address = get_or table address None

-- one of the cells stands at the address
abbrev pub has_cell : List (Cell_at Value) → ℕ → Bool
has_cell cells address = list_any (λ (cell : Cell_at Value). cell.address == address) cells

-- something is stated at an address in a table; of the cells of a row, in the open one
abbrev pub is_stated_in : Gathering → Table → ℕ → Bool
is_stated_in g Cell address = is_some (stated g.cells address)
is_stated_in g Init address = is_some (stated g.init address)
is_stated_in g In address = is_some (stated g.inputs address)
is_stated_in g Out address = is_some (stated g.outputs address)
is_stated_in g At address = has_cell g.row_cells address

-- how many rows there are, the open one with them
abbrev pub row_count : Gathering → ℕ
row_count g = length g.rows + (if is_some g.line then 1 else 0)

-- ---- what a statement adds

-- the cells with one more, before the first that stands no lower
abbrev pub with_cell : Cell_at Value → List (Cell_at Value) → List (Cell_at Value)
with_cell cell cells = insert cells (position_or_len (λ (other : Cell_at Value). nat_le cell.address other.address) cells) cell

-- the cells with what an entry states, where it states a value
abbrev pub with_entry : Entry → Option Value → List (Cell_at Value) → List (Cell_at Value)
with_entry entry (Some value) cells = with_cell (record { address = entry.address; value = value }) cells
with_entry entry None cells = cells

-- A statement that can be added where so many rows stand at each location: its address is one of its table, and at a row's location
-- there is room.
abbrev pub IsPlaced : (counts : List ℕ) → Statement → Type 0
IsPlaced counts (Start location) = Unit {0}
IsPlaced counts (EntryOf Cell entry) = entry.address < 2048
IsPlaced counts (EntryOf Init entry) = entry.address < 2048
IsPlaced counts (EntryOf In entry) = entry.address < 4096
IsPlaced counts (EntryOf Out entry) = entry.address < 4096
IsPlaced counts (EntryOf At entry) = Unit {0}
IsPlaced counts (May location) = location < 4096
IsPlaced counts (Row row) = (row.location < 4096) × (get_or counts row.location 0 < 512)
IsPlaced counts (Linked link) = Unit {0}
IsPlaced counts End = Unit {0}

-- what is kept once an entry was put into its table
abbrev pub with_entry_in : Gathering → Table → Entry → Gathering
with_entry_in g Cell entry = record g { cells = set g.cells entry.address entry.value }
with_entry_in g Init entry = record g { init = set g.init entry.address entry.value }
with_entry_in g In entry = record g { inputs = set g.inputs entry.address entry.value }
with_entry_in g Out entry = record g { outputs = set g.outputs entry.address entry.value }
with_entry_in g At entry = record g { row_cells = with_entry entry entry.value g.row_cells }

-- what is kept once what a statement says was added
abbrev pub with_part : Gathering → Statement → Gathering
with_part g (Start location) = record g { start = location }
with_part g (EntryOf table entry) = with_entry_in g table entry
with_part g (May location) = record g { places = set g.places location true }
with_part g (Row row) = record g { counts = set g.counts row.location (get_or g.counts row.location 0 + 1); line = Some row }
with_part g (Linked link) = record g { row_link = Some link }
with_part g End = g

-- what is kept once a statement without a fault was added, where the row before it is closed unless the statement belongs to it
abbrev pub with_statement : Gathering → Statement → Gathering
with_statement g statement = record (with_part g statement) { last = Some (kind_of statement) }

-- ---- the open row

-- the row is the one of its line, its cells and its link
pub record IsClosed (line : RowLine) (cells : List (Cell_at Value)) (row_link : Option Link) (row : Row_of Value) : Type 0 where
  pub location : row.location ≡ line.location
  pub a : Some row.a ≡ line.a
  pub q : Some row.q ≡ line.q
  pub x : row.x ≡ line.x
  pub v : row.v ≡ line.v
  pub at : row.at ≡ cells
  pub link : row.link ≡ row_link

-- the open row, if there is one, is added to the rows, and nothing else changes
abbrev pub Closes : Option RowLine → (old new : Gathering) → Type 0
Closes None old new = new ≡ old
Closes (Some line) old new = (row : Row_of Value) × IsClosed line old.row_cells old.row_link row
    × (new ≡ record old { rows = old.rows ++ row ∷ []; line = None; row_cells = []; row_link = None })

-- the row before a statement is closed, unless the statement belongs to it
abbrev pub ClosesBefore : Statement → (old new : Gathering) → Type 0
ClosesBefore (EntryOf At entry) old new = new ≡ old
ClosesBefore (Linked link) old new = new ≡ old
ClosesBefore statement old new = Closes old.line old new

-- the open row, if there is one, is whole, its cells ascend, and its link may stand in a row
pub record IsOpenRow (open_line : Option RowLine) (cells : List (Cell_at Value)) (row_link : Option Link) : Type 0 where
  pub line : IfSome open_line IsRowLine
  pub a : IfSome open_line (λ line. is_some line.a ≡ true)
  pub q : IfSome open_line (λ line. is_some line.q ≡ true)
  pub few : length cells ≤ 64
  pub ascending : cells_ascend 0 cells ≡ true
  pub link : is_link row_link ≡ true

-- the open row can be closed
abbrev pub IsClosable : Gathering → Type 0
IsClosable g = IsOpenRow g.line g.row_cells g.row_link

-- a statement is taken: the row before it is closed unless the statement belongs to it, and the statement is added
pub record Takes (old : Gathering) (statement : Statement) (new : Gathering) : Type 0 where
  pub between : Gathering
  pub closed : ClosesBefore statement old between
  pub added : new ≡ with_statement between statement

-- ---- the certificate

-- Everything is gathered: the tables have their sizes, there are rows and not too many, and what is stated of a cell, at the start or
-- in a row, is within its limit.
pub record IsFinished (g : Gathering) : Type 0 where
  pub sized : IsSized g
  pub start : g.start < 4096
  pub some_row : 1 ≤ length g.rows
  pub few_rows : length g.rows ≤ 20000
  pub few_at_one : (location : ℕ) → rows_at g.rows location ≤ 512
  pub firsts : (address : ℕ) → is_outside (stated g.init address) (stated g.cells address) ≡ false
  pub in_rows : All (λ (row : Row_of Value). (address : ℕ) → is_outside (value_among row.at address) (stated g.cells address) ≡ false) g.rows

-- a table's limits are what is stated at each address, up to a number of addresses
abbrev pub AreSetFrom : (count : ℕ) → List (Option Value) → (ℕ → Value) → Type 0
AreSetFrom count table limit_at = (address : ℕ) → address < count → IsLimit (stated table address) (limit_at address)

-- the limits are what is stated, and every word where nothing is
pub record AreLimitsOf (g : Gathering) (limits : Limiting Value) : Type 0 where
  pub tables : AreLimits limits
  pub cells : AreSetFrom 2048 g.cells (cell_limit limits)
  pub inputs : AreSetFrom 4096 g.inputs (input_limit limits)
  pub outputs : AreSetFrom 4096 g.outputs (output_limit limits)
  pub places : (location : ℕ) → location < 4096 → is_named limits location ≡ get_or g.places location false
  pub every : IsFull value_meaning limits.every

-- the certificate of what is gathered
pub record IsCertOfGathering (g : Gathering) (cert : Stated) : Type 0 where
  pub is_cert : IsCert cert
  pub start : cert.start ≡ g.start
  pub limits : AreLimitsOf g cert.limits
  pub init : cert.init ≡ g.init
  pub rows : cert.rows ≡ g.rows

-- ---- limits that are being set

-- each limit below a number of addresses is what is stated there, and every other is full
pub record IsSetUpTo (next : ℕ) (table : List (Option Value)) (limit_at : ℕ → Value) : Type 0 where
  pub below : (address : ℕ) → address < next → IsLimit (stated table address) (limit_at address)
  pub above : (address : ℕ) → next ≤ address → IsFull value_meaning (limit_at address)

-- each place below a number of locations is named where that is stated, and no other is
pub record IsNamedUpTo (next : ℕ) (places : List Bool) (limits : Limiting Value) : Type 0 where
  pub below : (location : ℕ) → location < next → is_named limits location ≡ get_or places location false
  pub above : (location : ℕ) → next ≤ location → is_named limits location ≡ false
