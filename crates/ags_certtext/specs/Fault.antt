-- The fault of a statement of a certificate, given the registers, the version and the statements before it, and the fault of a line's
-- reading.
use Rattle.std.specs.Prelude.{ℕ, Bool, true, false, not, ◌||◌, ◌&&◌, ◌==◌, nat_le, List, length, Option, Some, None}
use Rattle.std.specs.List.{list_any, filter, filter_map}
use Rattle.ags_domain.specs.Value.{value_held}
use Rattle.ags_domain.specs.declared.values.Value.{Value}
use Rattle.ags_ports.specs.Port.{Registers, is_once}
use Rattle.ags_ports.specs.declared.registers.Port.{Port}
use Rattle.ags_frame.specs.Fault.{Faults, reading_fault as fault_of}
use Rattle.ags_certtype.specs.Limit.{most_rows, most_rows_at_one}
use Rattle.ags_certtext.specs.declared.cert_error.CertKind.{CertKind}
use Rattle.ags_certtext.specs.declared.cert_error.CertKind.TheVariants.{BadLine, Version, Twice, EmptyRange, OutsideGlobal, NoZero, TooManyRows, TooManyAt, NoRows}
use Rattle.ags_certtext.specs.declared.statements.RowLine.{RowLine}
use Rattle.ags_certtext.specs.declared.statements.Statement.{Statement}
use Rattle.ags_certtext.specs.declared.statements.Statement.TheVariants.{Start, Entry as EntryOf, May, Row, Linked, End}
use Rattle.ags_certtext.specs.declared.kinds.Table.{Table}
use Rattle.ags_certtext.specs.declared.kinds.Table.TheVariants.{Cell, In, Out, At}
use Rattle.ags_certtext.specs.declared.kinds.Kind.TheVariants as kind
use Rattle.ags_certtext.specs.declared.statements.Entry.{Entry}
use Rattle.ags_certtext.specs.Kind.{is_kind, is_limited, kind_of, last_kind, stands_in_order, is_second_start}
use Rattle.ags_certtext.specs.Statement.{may_place, row_line, entries, has_address, value_at, entries_before, row_links, is_within}
use Rattle.ags_certtext.specs.Reading.{Reading}

-- a fault where a test holds, and else what is found later: so of several faults the first that is written is told
abbrev pub fault_if : Bool → CertKind → Option CertKind → Option CertKind
fault_if true kind later = Some kind
fault_if false kind later = later

-- the cell is a fixed one
abbrev pub is_fixed : ℕ → Bool
is_fixed address = nat_le 2048 address

-- one of the registers stands at the address
abbrev pub has_register : List Port → ℕ → Bool
has_register ports address = list_any (λ (port : Port). port.address == address) ports

-- the range of an entry, or of a row, is empty
abbrev pub is_empty : Option Value → Bool
is_empty None = true
is_empty (Some value) = false

-- what is stated of a cell is not within its limit; a cell with no limit stated may hold every word
abbrev pub is_outside : (stated limit : Option Value) → Bool
is_outside (Some value) (Some limit) = not (is_within value limit)
is_outside _ _ = false

-- the limit of an input register that holds its word once doesn't hold 0
abbrev pub lacks_zero : Option Port → Option Value → Bool
lacks_zero port (Some value) = is_once port && not (value_held value 0)
lacks_zero port None = false

-- the rows at a location
abbrev pub rows_at : List Statement → ℕ → List RowLine
rows_at statements location = filter (λ (row : RowLine). row.location == location) (filter_map row_line statements)

-- an entry of a table may stand at the address: of cells at one that isn't fixed, of registers at one of the machine's
abbrev pub may_stand : Registers → Table → ℕ → Bool
may_stand ports In address = has_register ports.inputs address
may_stand ports Out address = has_register ports.outputs address
may_stand ports of_cells address = not (is_fixed address)

-- what is stated of a cell, at the start or in a row, is not within the limit that is stated of it
abbrev pub leaves_limit : Table → (value limit : Option Value) → Bool
leaves_limit table value limit = is_limited table && is_outside value limit

-- one of the registers at an entry's address holds its word once, and what the entry states doesn't hold 0
abbrev pub is_unmet : List Port → Entry → Bool
is_unmet ports entry = list_any (λ (port : Port). port.address == entry.address && lacks_zero (Some port) entry.value) ports

-- the same of an entry of a table, where that is the one of input registers
abbrev pub lacks_word : Registers → Table → Entry → Bool
lacks_word ports In entry = is_unmet ports.inputs entry
lacks_word ports _ entry = false

-- a table has no room for a further entry where it has so many: a row has at most 64 cells
abbrev pub is_full_with : (count : ℕ) → Table → Bool
is_full_with count At = nat_le 64 count
is_full_with count _ = false

-- the fault of an entry of a table, given the statements before it
abbrev pub entry_fault : Registers → List Statement → Table → Entry → Option CertKind
entry_fault ports before table entry =
    fault_if (not (may_stand ports table entry.address)) BadLine
    (fault_if (has_address (entries_before table before) entry.address) Twice
    (fault_if (is_empty entry.value) EmptyRange
    (fault_if (leaves_limit table entry.value (value_at (entries Cell before) entry.address)) OutsideGlobal
    (fault_if (lacks_word ports table entry) NoZero
    (fault_if (is_full_with (length (entries_before table before)) table) TooManyAt None)))))

-- The fault of a statement that stands where its kind may, given the statements before it: of several the least number is told.
abbrev pub statement_fault : Registers → List Statement → Statement → Option CertKind
statement_fault ports before (Start location) = None
statement_fault ports before (EntryOf table entry) = entry_fault ports before table entry
statement_fault ports before (May location) =
    fault_if (list_any (λ (other : ℕ). other == location) (filter_map may_place before)) Twice None
statement_fault ports before (Row row) =
    fault_if (is_empty row.a || is_empty row.q) EmptyRange
    (fault_if (nat_le most_rows (length (filter_map row_line before)) || nat_le most_rows_at_one (length (rows_at before row.location))) TooManyRows None)
statement_fault ports before (Linked link) =
    fault_if (is_fixed link.address) BadLine (fault_if (nat_le 1 (length (row_links before))) Twice None)
statement_fault ports before End = fault_if (length (filter_map row_line before) == 0) NoRows None

-- the fault of a statement, given those before it
abbrev pub fault_after : Registers → List Statement → Statement → Option CertKind
fault_after ports before statement =
    fault_if (is_second_start (last_kind before) statement) Twice
    (fault_if (not (stands_in_order (last_kind before) statement)) BadLine
    (statement_fault ports before statement))

-- the statement is one of the version: there are links from version 2 on
abbrev pub is_of_version : (version : ℕ) → Statement → Bool
is_of_version version (Linked link) = nat_le 2 version
is_of_version version _ = true

-- the fault of a statement in a text of a version, given those before it
abbrev pub fault_in : Registers → (version : ℕ) → List Statement → Statement → Option CertKind
fault_in ports version before statement = fault_if (not (is_of_version version statement)) BadLine (fault_after ports before statement)

-- how a certificate tells faults for a machine's registers
abbrev pub faults : Registers → Faults Statement CertKind
faults ports = record {
  bad_line = BadLine;
  version = Version;
  is_end = λ statement. is_kind kind.End (kind_of statement);
  fault_after = fault_in ports;
}

-- The fault of a line's reading, or of the end of the text, where the lines before it have these readings, nearest first.
abbrev pub reading_fault : Registers → List Reading → Reading → Option CertKind
reading_fault ports before reading = fault_of (faults ports) before reading
