-- What the statements of a certificate say together. Where statements stand before another they are told nearest first.
use Rattle.std.specs.Prelude.{◌≡◌, ℕ, suc, zero, ◌<◌, Bool, true, not, ◌||◌, ◌&&◌, ◌==◌, List, [], ◌∷◌, length, Option, Some, None, if◌then◌else◌}
use Rattle.std.specs.List.{list_any, filter_map}
use Rattle.ags_domain.specs.Value.{value_held}
use Rattle.ags_domain.specs.declared.values.Value.{Value}
use Rattle.ags_row.specs.Flag.{some_flag}
use Rattle.ags_row.specs.declared.links.Link.{Link}
use Rattle.ags_certtext.specs.declared.statements.Entry.{Entry}
use Rattle.ags_certtext.specs.declared.statements.RowLine.{RowLine}
use Rattle.ags_certtext.specs.declared.statements.Statement.{Statement}
use Rattle.ags_certtext.specs.declared.statements.Statement.TheVariants.{Start, Entry as EntryOf, May, Row, Linked, End}
use Rattle.ags_certtext.specs.declared.kinds.Table.{Table}
use Rattle.ags_certtext.specs.declared.kinds.Table.TheVariants.{At}
use Rattle.ags_certtext.specs.Kind.{is_table}
use Rattle.ags_certtext.specs.Spelling.{is_offset}

-- the line of a row names a location, one index at least, and one indicator at least
pub record IsRowLine (row : RowLine) : Type 0 where
  pub location : row.location < 4096
  pub indices : length row.x ≡ 8
  pub indicators : length row.v ≡ 2
  pub some_index : some_flag row.x ≡ true
  pub some_indicator : some_flag row.v ≡ true

-- the line of a link names an address, and an offset that is a difference of two words' values
pub record IsLinkLine (link : Link) : Type 0 where
  pub address : link.address < 4096
  pub offset : is_offset link.offset ≡ true

-- the addresses and the locations of a statement are those of the machine, a row has an index and an indicator, and a link an offset
abbrev pub IsStatement : Statement → Type 0
IsStatement (Start location) = location < 4096
IsStatement (EntryOf table entry) = entry.address < 4096
IsStatement (May location) = location < 4096
IsStatement (Row row) = IsRowLine row
IsStatement (Linked link) = IsLinkLine link
IsStatement End = Unit {0}

-- what a statement enters in a table, where it does
abbrev pub entry_in : Table → Statement → Option Entry
entry_in table (EntryOf its entry) = if is_table table its then Some entry else None
entry_in table _ = None

-- the place that a statement names, and the line of a row
abbrev pub may_place : Statement → Option ℕ
may_place (May location) = Some location
may_place _ = None

abbrev pub row_line : Statement → Option RowLine
row_line (Row row) = Some row
row_line _ = None

-- the entries of a table
abbrev pub entries : Table → List Statement → List Entry
entries table statements = filter_map (entry_in table) statements

-- one of the entries has the address
abbrev pub has_address : List Entry → ℕ → Bool
has_address found address = list_any (λ (entry : Entry). entry.address == address) found

-- what the first of the entries with the address states, if one has it
abbrev pub value_at : List Entry → ℕ → Option Value
value_at [] address = None
value_at (entry ∷ others) address = if entry.address == address then entry.value else value_at others address

-- The AT and LINK lines that stand right at the front of the statements: after a row they are the row's, and of the statements before
-- one, told nearest first, they are those of the row that it would belong to. Of these the entries, and the links.
abbrev pub row_entries : List Statement → List Entry
row_entries [] = []
row_entries (EntryOf At entry ∷ statements) = entry ∷ row_entries statements
row_entries (Linked link ∷ statements) = row_entries statements
row_entries (_ ∷ statements) = []

abbrev pub row_links : List Statement → List Link
row_links [] = []
row_links (EntryOf At entry ∷ statements) = row_links statements
row_links (Linked link ∷ statements) = link ∷ row_links statements
row_links (_ ∷ statements) = []

-- The entries of a table that stand before, among which no address stands twice: of the cells of a row those of the same row.
abbrev pub entries_before : Table → List Statement → List Entry
entries_before At before = row_entries before
entries_before table before = entries table before

-- each number below another meets a test
unfoldable pub all_below : ℕ → (ℕ → Bool) → Bool
all_below zero test = true
all_below (suc n) test = test n && all_below n test

-- each word of the one value is held by the other
unfoldable pub is_within : (inner outer : Value) → Bool
is_within inner outer = all_below 262144 (λ word. not (value_held inner word) || value_held outer word)
