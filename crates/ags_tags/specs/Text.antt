-- What a text of scales says for a machine's registers and so many rows: the tags of the cells, the registers and the rows, or its
-- first fault.
use Rattle.std.specs.Prelude.{◌≡◌, ℕ, ◌<◌, ◌≤◌, ◌==◌, ◌||◌, not, nat_lt, Bool, true, false, if◌then◌else◌, List, length, Option, Some, None, All, codes}
use Rattle.std.specs.List.{list_any, filter_map}
use Rattle.ags_frame.specs.Fault.{Faults, has_ended}
use Rattle.ags_statements.specs.Fault.{fault_if}
use Rattle.ags_statements.specs.Text.{IsTextOf, IsFaultyText}
use Rattle.ags_statements.specs.declared.reading.TextError.{TextError}
use Rattle.ags_statements.specs.declared.reading.TextError.TheVariants as text
use Rattle.ags_ports.specs.Port.{Registers}
use Rattle.ags_ports.specs.declared.registers.Port.{Port}
use Rattle.ags_tags.specs.Spelling.{States}
use Rattle.ags_tags.specs.Tag.{Scaling, tag_at, any_tags, row_tags_at}
use Rattle.ags_tags.specs.declared.scale_errors.ScaleError.{ScaleError}
use Rattle.ags_tags.specs.declared.scale_errors.ScaleError.TheVariants.{At, NoMemory}
use Rattle.ags_tags.specs.declared.scale_errors.ScaleKind.{ScaleKind}
use Rattle.ags_tags.specs.declared.scale_errors.ScaleKind.TheVariants.{BadLine, Version, Twice, NoRow}
use Rattle.ags_tags.specs.declared.statements.Table.{Table}
use Rattle.ags_tags.specs.declared.statements.Table.TheVariants.{Cell, In, Out}
use Rattle.ags_tags.specs.declared.statements.Entry.{Entry}
use Rattle.ags_tags.specs.declared.statements.RowEntry.{RowEntry}
use Rattle.ags_tags.specs.declared.statements.ScaleLine.{ScaleLine}
use Rattle.ags_tags.specs.declared.statements.ScaleLine.TheVariants.{Scaled, Tagged, End}
use Rattle.ags_tags.specs.declared.tags.Tag.{Tag}
use Rattle.ags_tags.specs.declared.tags.Tag.TheVariants.{Raw, Scale}
use Rattle.ags_tags.specs.declared.tags.RowTags.{RowTags}

-- the name that a text of scales begins with
abbrev pub scales_name : List ℕ
scales_name = codes "AGSSCALE"

-- ---- what the lines state together

-- one table is another
abbrev pub is_table : (one other : Table) → Bool
is_table Cell Cell = true
is_table In In = true
is_table Out Out = true
is_table _ _ = false

-- the address and the scale that a line states in a table, if it does
abbrev pub entry_in : Table → ScaleLine → Option Entry
entry_in table (Scaled its entry) = if is_table table its then Some entry else None
entry_in table _ = None

-- the row and the tags that a line states, if it does
abbrev pub row_entry : ScaleLine → Option RowEntry
row_entry (Tagged entry) = Some entry
row_entry _ = None

-- what lines state in a table, and of rows
abbrev pub entries : Table → List ScaleLine → List Entry
entries table lines = filter_map (entry_in table) lines

abbrev pub row_entries : List ScaleLine → List RowEntry
row_entries lines = filter_map row_entry lines

-- one of them names the address, or the row
abbrev pub has_address : List Entry → ℕ → Bool
has_address found address = list_any (λ (entry : Entry). entry.address == address) found

abbrev pub has_row : List RowEntry → ℕ → Bool
has_row found number = list_any (λ (entry : RowEntry). entry.row == number) found

-- END ends a text
abbrev pub is_end : ScaleLine → Bool
is_end End = true
is_end _ = false

-- ---- faults

-- one of the registers stands at the address
abbrev pub has_register : List Port → ℕ → Bool
has_register ports address = list_any (λ (port : Port). port.address == address) ports

-- a line may name the address: that of a cell, or of a register of the machine
abbrev pub may_stand : Registers → Table → ℕ → Bool
may_stand ports Cell address = nat_lt address 4096
may_stand ports In address = has_register ports.inputs address
may_stand ports Out address = has_register ports.outputs address

-- the fault of a line that stands before END, for so many rows and given the lines before it: of several the least number is told
abbrev pub line_fault : Registers → (rows : ℕ) → List ScaleLine → ScaleLine → Option ScaleKind
line_fault ports rows before (Scaled table its) =
    fault_if (not (may_stand ports table its.address)) BadLine
    (fault_if (has_address (entries table before) its.address) Twice None)
line_fault ports rows before (Tagged its) =
    fault_if (has_row (row_entries before) its.row) Twice
    (fault_if (its.row == 0 || nat_lt rows its.row) NoRow None)
line_fault ports rows before End = None

-- how a text of scales tells faults for a machine's registers and so many rows: nothing stands after END
abbrev pub faults : Registers → (rows : ℕ) → Faults ScaleLine ScaleKind
faults ports rows = record {
  bad_line = BadLine;
  version = Version;
  is_end = is_end;
  fault_after = λ version before line. fault_if (has_ended is_end before) BadLine (line_fault ports rows before line);
}

-- ---- what is declared

-- The 4096 addresses of a table have the scales that its entries state, and are raw where no entry names them.
pub record AreTags (its : List Entry) (tags : List Tag) : Type 0 where
  pub count : length tags ≡ 4096
  pub stated : All (λ (entry : Entry). tag_at tags entry.address ≡ Scale entry.scale) its
  pub others : (address : ℕ) → address < 4096 → has_address its address ≡ false → tag_at tags address ≡ Raw

-- The rows have the tags that entries state, and any where no entry names them.
pub record AreRowTags (rows : ℕ) (its : List RowEntry) (tags : List RowTags) : Type 0 where
  pub count : length tags ≡ rows
  pub stated : All (λ (entry : RowEntry). row_tags_at tags entry.row ≡ entry.tags) its
  pub others : (number : ℕ) → 1 ≤ number → number ≤ rows → has_row its number ≡ false → row_tags_at tags number ≡ any_tags

-- the tags are those that the lines state
pub record AreScales (rows : ℕ) (lines : List ScaleLine) (scales : Scaling) : Type 0 where
  pub cells : AreTags (entries Cell lines) scales.cells
  pub inputs : AreTags (entries In lines) scales.inputs
  pub outputs : AreTags (entries Out lines) scales.outputs
  pub of_rows : AreRowTags rows (row_entries lines) scales.rows

-- The text is one of scales for a machine's registers and so many rows, without a fault, and these are the tags.
pub record IsScalesOf (ports : Registers) (rows : ℕ) (text : List ℕ) (scales : Scaling) : Type 0 where
  pub lines : List ScaleLine
  pub is_text : IsTextOf scales_name 1 States (faults ports rows) text lines
  pub are_scales : AreScales rows lines scales

-- the text's first faulty line is this one, counted from 1, with this fault; where END is missing it is the line after the last
abbrev pub IsFaultyScales : Registers → (rows : ℕ) (text : List ℕ) (line : ℕ) (kind : ScaleKind) → Type 0
IsFaultyScales ports rows text line kind = IsFaultyText scales_name 1 States (faults ports rows) text line kind

-- why a text was not read, where it was not want of memory
abbrev pub IsRefused : Registers → (rows : ℕ) → List ℕ → ScaleError → Type 0
IsRefused ports rows text (At line kind) = IsFaultyScales ports rows text line kind
IsRefused ports rows text NoMemory = Unit {0}

-- the error that a text's fault is told as
abbrev pub error_of : TextError ScaleKind → ScaleError
error_of (text.At line fault) = At line fault
error_of text.NoMemory = NoMemory
