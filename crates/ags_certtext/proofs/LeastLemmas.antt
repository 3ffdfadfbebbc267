-- The fault of a statement is the one of the least number.
use Rattle.std.proofs.Common.{◌≡◌, ℕ, Bool, true, false, not, ◌||◌, ◌&&◌, ◌==◌, List, length, Some, None, refl}
use Rattle.std.specs.Prelude.{nat_le, if◌then◌else◌}
use Rattle.std.specs.List.{list_any, filter_map}
use Rattle.ags_ports.specs.Port.{Registers}
use Rattle.ags_certtype.specs.Limit.{most_rows, most_rows_at_one}
use Rattle.ags_certtext.specs.declared.cert_error.CertKind.TheVariants.{BadLine, Twice, EmptyRange, OutsideGlobal, NoZero, TooManyRows, TooManyAt, NoRows}
use Rattle.ags_certtext.specs.declared.statements.Statement.{Statement}
use Rattle.ags_certtext.specs.declared.statements.Statement.TheVariants.{Start, Entry as EntryOf, May, Row, Linked, End}
use Rattle.ags_certtext.specs.declared.kinds.Table.TheVariants.{Cell}
use Rattle.ags_certtext.specs.Condition.{least_fault}
use Rattle.ags_certtext.specs.Fault.{fault_if, fault_in, is_empty, is_fixed, is_full_with, lacks_word, leaves_limit, may_stand, rows_at}
use Rattle.ags_certtext.specs.Kind.{is_second_start, last_kind, stands_in_order}
use Rattle.ags_certtext.specs.Statement.{may_place, row_line, entries, has_address, value_at, entries_before, row_links}

-- faults asked one after the other, and the first of them that there is, by whether there is each

start_first : (second ordered : Bool)
    → fault_if second Twice (fault_if (not ordered) BadLine None) ≡ (if (not second && not ordered) || false then Some BadLine else (if second then Some Twice else None))
start_first true ordered = refl
start_first false true = refl
start_first false false = refl

entry_first : (ordered stands twice empty outside unmet full : Bool)
    → fault_if (not ordered) BadLine (fault_if (not stands) BadLine (fault_if twice Twice (fault_if empty EmptyRange (fault_if outside OutsideGlobal
    (fault_if unmet NoZero (fault_if full TooManyAt None))))))
    ≡ (if not ordered || not stands then Some BadLine else (if twice then Some Twice else (if empty then Some EmptyRange else (if outside then Some OutsideGlobal
    else (if unmet then Some NoZero else (if full then Some TooManyAt else None))))))
entry_first false stands twice empty outside unmet full = refl
entry_first true false twice empty outside unmet full = refl
entry_first true true true empty outside unmet full = refl
entry_first true true false true outside unmet full = refl
entry_first true true false false true unmet full = refl
entry_first true true false false false true full = refl
entry_first true true false false false false true = refl
entry_first true true false false false false false = refl

place_first : (ordered twice : Bool)
    → fault_if (not ordered) BadLine (fault_if twice Twice None) ≡ (if not ordered || false then Some BadLine else (if twice then Some Twice else None))
place_first false twice = refl
place_first true true = refl
place_first true false = refl

row_first : (ordered empty many : Bool)
    → fault_if (not ordered) BadLine (fault_if empty EmptyRange (fault_if many TooManyRows None))
    ≡ (if not ordered || false then Some BadLine else (if empty then Some EmptyRange else (if many then Some TooManyRows else None)))
row_first false empty many = refl
row_first true true many = refl
row_first true false true = refl
row_first true false false = refl

link_first : (stated ordered fixed twice : Bool)
    → fault_if (not stated) BadLine (fault_if (not ordered) BadLine (fault_if fixed BadLine (fault_if twice Twice None)))
    ≡ (if not stated || (not ordered || fixed) then Some BadLine else (if twice then Some Twice else None))
link_first false ordered fixed twice = refl
link_first true false fixed twice = refl
link_first true true true twice = refl
link_first true true false true = refl
link_first true true false false = refl

end_first : (ordered none : Bool)
    → fault_if (not ordered) BadLine (fault_if none NoRows None) ≡ (if not ordered || false then Some BadLine else (if none then Some NoRows else None))
end_first false none = refl
end_first true true = refl
end_first true false = refl

pub fault_is_least : (ports : Registers) (version : ℕ) (before : List Statement) (statement : Statement)
    → fault_in ports version before statement ≡ least_fault ports version before statement
fault_is_least ports version before (Start location) = start_first (is_second_start (last_kind before) (Start location)) (stands_in_order (last_kind before) (Start location))
fault_is_least ports version before (EntryOf table entry) =
    entry_first (stands_in_order (last_kind before) (EntryOf table entry)) (may_stand ports table entry.address) (has_address (entries_before table before) entry.address)
    (is_empty entry.value) (leaves_limit table entry.value (value_at (entries Cell before) entry.address)) (lacks_word ports table entry)
    (is_full_with (length (entries_before table before)) table)
fault_is_least ports version before (May location) =
    place_first (stands_in_order (last_kind before) (May location)) (list_any (λ (other : ℕ). other == location) (filter_map may_place before))
fault_is_least ports version before (Row row) =
    row_first (stands_in_order (last_kind before) (Row row)) (is_empty row.a || is_empty row.q)
    (nat_le most_rows (length (filter_map row_line before)) || nat_le most_rows_at_one (length (rows_at before row.location)))
fault_is_least ports version before (Linked link) =
    link_first (nat_le 2 version) (stands_in_order (last_kind before) (Linked link)) (is_fixed link.address) (nat_le 1 (length (row_links before)))
fault_is_least ports version before End = end_first (stands_in_order (last_kind before) End) (length (filter_map row_line before) == 0)
