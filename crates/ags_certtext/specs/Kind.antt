-- The kinds of statements, the order in which they stand, and the tables.
use Rattle.std.specs.Prelude.{ℕ, Bool, true, false, not, List, [], ◌∷◌, Option, Some, None, is_some, codes}
use Rattle.ags_frame.specs.Order.{position_in, follows_in}
use Rattle.ags_certtext.specs.declared.kinds.Kind.{Kind}
use Rattle.ags_certtext.specs.declared.kinds.Kind.TheVariants as kind
use Rattle.ags_certtext.specs.declared.statements.Statement.{Statement}
use Rattle.ags_certtext.specs.declared.statements.Statement.TheVariants.{Start, Entry as EntryOf, May, Row, Linked, End}
use Rattle.ags_certtext.specs.declared.kinds.Table.{Table}
use Rattle.ags_certtext.specs.declared.kinds.Table.TheVariants.{Cell, Init, In, Out, At}

-- the kinds in their order
abbrev pub kinds_in_order : List Kind
kinds_in_order = kind.Start ∷ kind.Cell ∷ kind.Init ∷ kind.In ∷ kind.Out ∷ kind.May ∷ kind.Row ∷ kind.End ∷ []

-- one kind is another
abbrev pub is_kind : (one other : Kind) → Bool
is_kind kind.Start kind.Start = true
is_kind kind.Cell kind.Cell = true
is_kind kind.Init kind.Init = true
is_kind kind.In kind.In = true
is_kind kind.Out kind.Out = true
is_kind kind.May kind.May = true
is_kind kind.Row kind.Row = true
is_kind kind.End kind.End = true
is_kind _ _ = false

-- how many kinds stand before one
abbrev pub kinds_before : Kind → ℕ
kinds_before its = position_in is_kind kinds_in_order its

-- ---- the tables

-- one table is another
abbrev pub is_table : (one other : Table) → Bool
is_table Cell Cell = true
is_table Init Init = true
is_table In In = true
is_table Out Out = true
is_table At At = true
is_table _ _ = false

-- the keyword of a table's entries
abbrev pub table_name : Table → List ℕ
table_name Cell = codes "CELL"
table_name Init = codes "INIT"
table_name In = codes "IN"
table_name Out = codes "OUT"
table_name At = codes "AT"

-- What the entries of a table state of cells is held against the limits that are stated of them: of cells at the start, and of those of
-- a row.
abbrev pub is_limited : Table → Bool
is_limited Cell = false
is_limited Init = true
is_limited In = false
is_limited Out = false
is_limited At = true

-- the kind of a table's entries; those of a row's cells are of the row's kind
abbrev pub table_kind : Table → Kind
table_kind Cell = kind.Cell
table_kind Init = kind.Init
table_kind In = kind.In
table_kind Out = kind.Out
table_kind At = kind.Row

-- ---- statements

-- the kind of a statement; a row's link is of the row's kind
abbrev pub kind_of : Statement → Kind
kind_of (Start location) = kind.Start
kind_of (EntryOf table entry) = table_kind table
kind_of (May location) = kind.May
kind_of (Row row) = kind.Row
kind_of (Linked link) = kind.Row
kind_of End = kind.End

-- the kind of the nearest statement before, if there is one
abbrev pub last_kind : List Statement → Option Kind
last_kind [] = None
last_kind (statement ∷ before) = Some (kind_of statement)

-- the last kind, if there is one, is this one
abbrev pub is_last : Kind → (last : Option Kind) → Bool
is_last its None = false
is_last its (Some last) = is_kind its last

-- a kind may stand after the last, in that order
abbrev pub follows : (last : Option Kind) → Kind → Bool
follows last its = follows_in is_kind kinds_in_order kind.End last its

-- so may the entry of a table; that of a row's cell stands after its row
abbrev pub entry_follows : (last : Option Kind) → Table → Bool
entry_follows last At = is_last kind.Row last
entry_follows last table = follows last (table_kind table)

-- A statement's kind may stand after those before it: the kinds come in their order, each of any number of lines but START and END. The
-- link of a row stands after its row.
abbrev pub stands_in_order : (last : Option Kind) → Statement → Bool
stands_in_order last (Start location) = not (is_some last)
stands_in_order last (EntryOf table entry) = entry_follows last table
stands_in_order last (Linked link) = is_last kind.Row last
stands_in_order last statement = follows last (kind_of statement)

-- a second START right after the first
abbrev pub is_second_start : (last : Option Kind) → Statement → Bool
is_second_start last (Start location) = is_last kind.Start last
is_second_start last _ = false
