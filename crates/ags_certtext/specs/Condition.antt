-- What each fault of a statement is by itself: a condition on the statement and those before it, which knows of no other fault.
use Rattle.std.specs.Prelude.{ℕ, Bool, false, not, ◌||◌, ◌&&◌, ◌==◌, nat_le, List, [], ◌∷◌, length, Option, Some, None, if◌then◌else◌}
use Rattle.std.specs.List.{list_any, filter_map}
use Rattle.ags_ports.specs.Port.{Registers}
use Rattle.ags_certtype.specs.Limit.{most_rows, most_rows_at_one}
use Rattle.ags_certtext.specs.declared.cert_error.CertKind.{CertKind}
use Rattle.ags_certtext.specs.declared.cert_error.CertKind.TheVariants.{BadLine, Version, Twice, EmptyRange, OutsideGlobal, NoZero, TooManyRows, TooManyAt, NoRows}
use Rattle.ags_certtext.specs.declared.statements.Statement.{Statement}
use Rattle.ags_certtext.specs.declared.statements.Statement.TheVariants.{Start, Entry as EntryOf, May, Row, Linked, End}
use Rattle.ags_certtext.specs.declared.kinds.Table.TheVariants.{Cell}
use Rattle.ags_certtext.specs.Fault.{is_empty, is_fixed, is_full_with, is_of_version, lacks_word, leaves_limit, may_stand, rows_at}
use Rattle.ags_certtext.specs.Kind.{is_second_start, last_kind, stands_in_order}
use Rattle.ags_certtext.specs.Statement.{may_place, row_line, entries, has_address, value_at, entries_before, row_links}

-- the kinds of faults in the order of their numbers
abbrev pub kinds_by_number : List CertKind
kinds_by_number = BadLine ∷ Version ∷ Twice ∷ EmptyRange ∷ OutsideGlobal ∷ NoZero ∷ TooManyRows ∷ TooManyAt ∷ NoRows ∷ []

-- the statement names a cell or a register that it can't be of: a fixed cell, or no register of the machine
abbrev pub names_none : Registers → Statement → Bool
names_none ports (EntryOf table entry) = not (may_stand ports table entry.address)
names_none ports (Linked link) = is_fixed link.address
names_none ports _ = false

-- the statement comes out of its order; a second START right after the first doesn't
abbrev pub is_out_of_order : List Statement → Statement → Bool
is_out_of_order before statement = not (is_second_start (last_kind before) statement) && not (stands_in_order (last_kind before) statement)

-- START, what stands at an address or a location, or the link of a row, was stated before
abbrev pub is_repeated : List Statement → Statement → Bool
is_repeated before (Start location) = is_second_start (last_kind before) (Start location)
is_repeated before (EntryOf table entry) = has_address (entries_before table before) entry.address
is_repeated before (May location) = list_any (λ (other : ℕ). other == location) (filter_map may_place before)
is_repeated before (Linked link) = nat_le 1 (length (row_links before))
is_repeated before _ = false

-- a range of the statement is empty
abbrev pub has_empty_range : Statement → Bool
has_empty_range (EntryOf table entry) = is_empty entry.value
has_empty_range (Row row) = is_empty row.a || is_empty row.q
has_empty_range _ = false

-- what it states of a cell is not within the limit that is stated of it
abbrev pub leaves_its_limit : List Statement → Statement → Bool
leaves_its_limit before (EntryOf table entry) = leaves_limit table entry.value (value_at (entries Cell before) entry.address)
leaves_its_limit before _ = false

-- a register of it holds its word once, and what it states doesn't hold 0
abbrev pub lacks_its_word : Registers → Statement → Bool
lacks_its_word ports (EntryOf table entry) = lacks_word ports table entry
lacks_its_word ports _ = false

-- there are as many rows before it as there may be, in all or at its location
abbrev pub is_row_too_many : List Statement → Statement → Bool
is_row_too_many before (Row row) = nat_le most_rows (length (filter_map row_line before)) || nat_le most_rows_at_one (length (rows_at before row.location))
is_row_too_many before _ = false

-- the row before it has as many cells as it may have
abbrev pub is_cell_too_many : List Statement → Statement → Bool
is_cell_too_many before (EntryOf table entry) = is_full_with (length (entries_before table before)) table
is_cell_too_many before _ = false

-- it is the end, and no row stands before it
abbrev pub ends_without_rows : List Statement → Statement → Bool
ends_without_rows before End = length (filter_map row_line before) == 0
ends_without_rows before _ = false

-- The condition of each kind. That of a version is one of the first line, which states nothing.
abbrev pub has_fault : Registers → (version : ℕ) → List Statement → Statement → CertKind → Bool
has_fault ports version before statement BadLine = not (is_of_version version statement) || (is_out_of_order before statement || names_none ports statement)
has_fault ports version before statement Version = false
has_fault ports version before statement Twice = is_repeated before statement
has_fault ports version before statement EmptyRange = has_empty_range statement
has_fault ports version before statement OutsideGlobal = leaves_its_limit before statement
has_fault ports version before statement NoZero = lacks_its_word ports statement
has_fault ports version before statement TooManyRows = is_row_too_many before statement
has_fault ports version before statement TooManyAt = is_cell_too_many before statement
has_fault ports version before statement NoRows = ends_without_rows before statement

-- the first of some kinds whose condition is met
abbrev pub first_met : (CertKind → Bool) → List CertKind → Option CertKind
first_met met [] = None
first_met met (kind ∷ kinds) = if met kind then Some kind else first_met met kinds

-- so of a statement, by the kinds' numbers
abbrev pub least_fault : Registers → (version : ℕ) → List Statement → Statement → Option CertKind
least_fault ports version before statement = first_met (has_fault ports version before statement) kinds_by_number
