-- The rows of a certificate have no fault, each with its cells, and neither has the end; and so the whole certificate.
use Rattle.std.proofs.Common.{◌≡◌, ℕ, ◌+◌, ◌<◌, ◌≤◌, Bool, true, false, ◌==◌, List, [], ◌∷◌, ◌++◌, length, map, Option, Some, None, refl, sym, ◌∙◌, inl, inr, arith}
use Rattle.std.specs.Prelude.{nat_le, nat_lt, All, is_some, ◌||◌, ◌&&◌, if◌then◌else◌}
use Rattle.std.specs.Int.RustNames.{int_le}
use Rattle.std.specs.Prelude.{pos, negsuc}
use Rattle.std.specs.List.{filter, filter_map, flat_map}
use Rattle.std.proofs.lemmas.Bool.{cases_Bool, eq-eqb, ne_eqb}
use Rattle.std.proofs.lemmas.Bool.Decides.{nat_tests}
use Rattle.std.proofs.lemmas.List.Elements.{All-head, All-tail}
use Rattle.std.proofs.lemmas.List.Sums.{sum_by-cons}
use Rattle.ags_text.specs.Fault.{first_fault, first_fault-faultless}
use Rattle.ags_domain.specs.Domain.{IsWithin}
use Rattle.ags_domain.specs.ListLaws.{and_left}
use Rattle.ags_domain.specs.Value.{value_meaning}
use Rattle.ags_domain.specs.declared.values.Value.{Value}
use Rattle.ags_ports.specs.Port.{Registers}
use Rattle.ags_ports.specs.declared.machines.Machine.{Machine}
use Rattle.ags_row.specs.Cell.{cells_ascend}
use Rattle.ags_row.specs.Limit.{cell_limit}
use Rattle.ags_row.specs.Link.{is_link}
use Rattle.ags_row.specs.declared.ats.At.{At}
use Rattle.ags_row.specs.declared.links.Link.{Link}
use Rattle.ags_row.specs.declared.rows.Row.{Row}
use Rattle.ags_safe.specs.Certificate.{Suits}
use Rattle.ags_certtype.specs.Cert.{Stated, IsCert, certificate_of, rows_at}
use Rattle.ags_certtype.specs.Limit.{most_rows, most_rows_at_one}
use Rattle.ags_certtext.specs.Fault.{fault_in, faults, reading_fault, is_outside, rows_at as lines_at}
use Rattle.ags_frame.specs.Fault.{end_fault}
use Rattle.ags_frame.specs.Reading.{Opening, Stated as StatedBy, Ended}
use Rattle.ags_certtext.specs.declared.kinds.Kind.TheVariants as kind
use Rattle.ags_certtext.specs.Kind.{last_kind}
use Rattle.ags_certtext.specs.Statement.{entries, has_address, value_at, row_entries, row_links, row_line}
use Rattle.ags_certtext.specs.declared.statements.RowLine.{RowLine}
use Rattle.ags_certtext.specs.declared.statements.Statement.{Statement}
use Rattle.ags_certtext.specs.declared.statements.Statement.TheVariants.{Start, Entry as EntryOf, Row as RowOf, Linked, End}
use Rattle.ags_certtext.specs.declared.kinds.Table.TheVariants.{Cell, At as InRow}
use Rattle.ags_certsend.specs.CertText.{entry_of, cell_statement, init_statement, input_statement, output_statement, place_statement, ascending, row_line_of, at_statement, link_statements, row_statements, has_links, text_version, version_with, statements_of}
use Rattle.ags_certsend.proofs.GoodLemmas.{cell_below}
use Rattle.ags_certsend.proofs.PassLemmas.{in_order, last_number, row_number, onto, NoFault, no_fault-append, onto-append, readings_faultless, AreLower, lower_none, lower_more, lower_kind, lower_last, apart, AreCellsOf, cells_none, cells_other, not_outside, start_stands, no_lines, ascending_passed}
use Rattle.ags_certsend.proofs.KindLemmas.{not_fixed, cell_keeps, init_keeps, input_keeps, output_keeps, place_keeps}

-- ---- the cells of a row

not_many : (most count : ℕ) → count < most → nat_le most count ≡ false
not_many most count less = grind (arith, nat_tests)

at_clear : (ports : Registers) (version : ℕ) (before : List Statement) (address : ℕ) (value : Value) → last_kind before ≡ Some kind.Row → address < 2048 → has_address (row_entries before) address ≡ false
    → is_outside (Some value) (value_at (entries Cell before) address) ≡ false → length (row_entries before) < 64 → fault_in ports version before (EntryOf InRow (entry_of address value)) ≡ None
at_clear ports version before address value last below none within few = rw (last, not_fixed address below, none, within, not_many 64 (length (row_entries before)) few) refl

-- what stands before a cell of a row, whose address is from that one on
record IsInRow (cert : Stated) (lines : List RowLine) (before : List Statement) (from : ℕ) : Type 0 where
  last : last_kind before ≡ Some kind.Row
  cells : AreCellsOf cert before
  rows : filter_map row_line before ≡ lines
  fresh : (address : ℕ) → from ≤ address → has_address (row_entries before) address ≡ false

-- the cells have no fault, and this is kept
record ArePassed (ports : Registers) (version : ℕ) (cert : Stated) (lines : List RowLine) (before statements : List Statement) : Type 0 where
  none : NoFault ports version before statements
  last : last_kind (onto before statements) ≡ Some kind.Row
  cells : AreCellsOf cert (onto before statements)
  rows : filter_map row_line (onto before statements) ≡ lines

AllWithin : Stated → List (At Value) → Type 0
AllWithin cert cells = All (λ (at : At Value). IsWithin value_meaning at.value (cell_limit cert.limits at.address)) cells

cells_passed : (ports : Registers) (version : ℕ) (cert : Stated) (lines : List RowLine) (from : ℕ) (cells : List (At Value)) → cells_ascend from cells ≡ true → AllWithin cert cells
    → (before : List Statement) → IsInRow cert lines before from → length (row_entries before) + length cells ≤ 64 → ArePassed ports version cert lines before (map at_statement cells)
unfolding NoFault onto AllWithin
cells_passed ports version cert lines from [] is within before in_row few = record { none = tt; last = in_row.last; cells = in_row.cells; rows = in_row.rows }
cells_passed ports version cert lines from (cell ∷ cells) is within before in_row few =
    let parts = cell_below from cell cells is in
    let here = All-head (λ (at : At Value). IsWithin value_meaning at.value (cell_limit cert.limits at.address)) cell cells within in
    let clear = at_clear ports version before cell.address cell.value in_row.last parts.1 (in_row.fresh cell.address parts.0) (not_outside cert before cell.address cell.value in_row.cells here) (omega (arith, few)) in
    let next : IsInRow cert lines (at_statement cell ∷ before) (cell.address + 1) = record {
      last = refl;
      cells = cells_other cert (at_statement cell) before refl in_row.cells;
      rows = in_row.rows;
      fresh = λ address above. rw (apart cell.address address (omega (arith, above)), in_row.fresh address (omega (arith, above, parts.0))) refl;
    } in
    let rest = cells_passed ports version cert lines (cell.address + 1) cells parts.2 (All-tail (λ (at : At Value). IsWithin value_meaning at.value (cell_limit cert.limits at.address)) cell cells within)
    (at_statement cell ∷ before) next (omega (arith, few)) in
    record { none = (clear, rest.none); last = rest.last; cells = rest.cells; rows = rest.rows }

-- the cells of a row state no link
cells_no_links : (cells : List (At Value)) (before : List Statement) → row_links (onto before (map at_statement cells)) ≡ row_links before
unfolding onto
cells_no_links [] before = refl
cells_no_links (cell ∷ cells) before = cells_no_links cells (at_statement cell ∷ before)

-- ---- the link of a row

below_is : (address : ℕ) → nat_lt address 2048 ≡ true → address < 2048
below_is address is = grind (arith, nat_tests)

erasable : (link : Link) → is_link (Some link) ≡ true → nat_le 2048 link.address ≡ false
erasable link is =
    not_fixed link.address (below_is link.address (and_left (nat_lt link.address 2048) (int_le (negsuc 262142) link.offset && int_le link.offset (pos 262143)) is))

link_clear : (ports : Registers) (version : ℕ) (before : List Statement) (link : Link) → nat_le 2 version ≡ true → last_kind before ≡ Some kind.Row → nat_le 2048 link.address ≡ false
    → row_links before ≡ [] → fault_in ports version before (Linked link) ≡ None
link_clear ports version before link second last erasable none = rw (second, last, erasable, none) refl

link_passed : (ports : Registers) (version : ℕ) (cert : Stated) (lines : List RowLine) (link : Option Link) → is_link link ≡ true → (is_some link ≡ true → nat_le 2 version ≡ true)
    → (before : List Statement) → last_kind before ≡ Some kind.Row → AreCellsOf cert before → filter_map row_line before ≡ lines → row_links before ≡ []
    → ArePassed ports version cert lines before (link_statements link)
unfolding NoFault onto
link_passed ports version cert lines None is second before last cells rows none = record { none = tt; last = last; cells = cells; rows = rows }
link_passed ports version cert lines (Some link) is second before last cells rows none = record {
  none = (link_clear ports version before link (second refl) last (erasable link is) none, tt);
  last = refl;
  cells = cells_other cert (Linked link) before refl cells;
  rows = rows;
}

-- the version has links where a row has one
unfoldable pub AreVersioned : ℕ → List (Row Value) → Type 0
AreVersioned version [] = Unit {0}
AreVersioned version (row ∷ rows) = (is_some row.link ≡ true → nat_le 2 version ≡ true) × AreVersioned version rows

second_versioned : (rows : List (Row Value)) → AreVersioned 2 rows
unfolding AreVersioned
second_versioned [] = tt
second_versioned (row ∷ rows) = (λ some. refl, second_versioned rows)

neither : (one other : Bool) → (one || other) ≡ false → (one ≡ false) × (other ≡ false)
neither false other is = (refl, is)
neither true other is = let clash : true ≡ false = is in absurd cc

first_versioned : (rows : List (Row Value)) → has_links rows ≡ false → AreVersioned 1 rows
unfolding AreVersioned has_links
first_versioned [] none = tt
first_versioned (row ∷ rows) none =
    let parts = neither (is_some row.link) (has_links rows) none in
    (λ some. let clash : false ≡ true = sym parts.0 ∙ some in absurd cc, first_versioned rows parts.1)

versioned : (rows : List (Row Value)) (links : Bool) → has_links rows ≡ links → AreVersioned (version_with links) rows
versioned rows true is = second_versioned rows
versioned rows false is = first_versioned rows is

-- ---- a row

-- what stands before these rows
record IsBeforeRows (cert : Stated) (before : List Statement) (rows : List (Row Value)) : Type 0 where
  last : last_number before ≤ 7
  cells : AreCellsOf cert before
  count : length (filter_map row_line before) + length rows ≡ length cert.rows
  few : (location : ℕ) → length (lines_at before location) + rows_at rows location ≤ most_rows_at_one

row_clear : (ports : Registers) (version : ℕ) (before : List Statement) (row : Row Value) → last_number before ≤ 7 → length (filter_map row_line before) < most_rows
    → length (lines_at before row.location) < most_rows_at_one → fault_in ports version before (RowOf (row_line_of row)) ≡ None
row_clear ports version before row last few few_here =
    rw (in_order before kind.Row 7 refl last last, not_many most_rows (length (filter_map row_line before)) few, not_many most_rows_at_one (length (lines_at before row.location)) few_here) refl

-- the row's own line counts where it stands
here_once : (row : Row Value) (rows : List (Row Value)) → rows_at (row ∷ rows) row.location ≡ 1 + rows_at rows row.location
here_once row rows = sum_by-cons (λ (one : Row Value). if one.location == row.location then 1 else 0) row rows ∙ rw (eq-eqb row.location row.location refl) refl

counted : (row : Row Value) (lines : List RowLine) (rows : List (Row Value)) (location : ℕ)
    → length (filter (λ (line : RowLine). line.location == location) (row_line_of row ∷ lines)) + rows_at rows location
    ≡ length (filter (λ (line : RowLine). line.location == location) lines) + rows_at (row ∷ rows) location
counted row lines rows location =
    elim (cases_Bool (row.location == location)) [
      | inl same ↦
          let more : rows_at (row ∷ rows) location ≡ 1 + rows_at rows location = sum_by-cons (λ (one : Row Value). if one.location == location then 1 else 0) row rows ∙ rw same refl in
          rw (more, same) (omega arith)
      | inr other ↦
          let more : rows_at (row ∷ rows) location ≡ 0 + rows_at rows location = sum_by-cons (λ (one : Row Value). if one.location == location then 1 else 0) row rows ∙ rw other refl in
          rw (more, other) (omega arith)
    ]

record IsRowPassed (ports : Registers) (version : ℕ) (cert : Stated) (before statements : List Statement) (rows : List (Row Value)) : Type 0 where
  none : NoFault ports version before statements
  later : IsBeforeRows cert (onto before statements) rows

row_passed : (ports : Registers) (version : ℕ) (cert : Stated) → IsCert cert → (row : Row Value) (rows : List (Row Value)) → AllWithin cert row.at → (is_some row.link ≡ true → nat_le 2 version ≡ true)
    → (before : List Statement) → IsBeforeRows cert before (row ∷ rows) → IsRowPassed ports version cert before (row_statements row) rows
unfolding NoFault onto row_statements
row_passed ports version cert good row rows within second before state =
    let few_rows = good.few_rows in
    let count = state.count in
    let few_here = state.few row.location in
    let once = here_once row rows in
    let clear = row_clear ports version before row state.last (omega (arith, few_rows, count)) (omega (arith, few_here, once)) in
    let in_row : IsInRow cert (filter_map row_line (RowOf (row_line_of row) ∷ before)) (RowOf (row_line_of row) ∷ before) 0 = record {
      last = refl;
      cells = cells_other cert (RowOf (row_line_of row)) before refl state.cells;
      rows = refl;
      fresh = λ address above. refl;
    } in
    let few = row.few in
    let passed = cells_passed ports version cert (filter_map row_line (RowOf (row_line_of row) ∷ before)) 0 row.at row.ascending within (RowOf (row_line_of row) ∷ before) in_row (omega (arith, few)) in
    let at : List Statement = onto (RowOf (row_line_of row) ∷ before) (map at_statement row.at) in
    let linked = link_passed ports version cert (filter_map row_line (RowOf (row_line_of row) ∷ before)) row.link row.linked second at passed.last passed.cells passed.rows
    (cells_no_links row.at (RowOf (row_line_of row) ∷ before)) in
    let last = row_number (onto at (link_statements row.link)) linked.last in
    record {
      none = (clear, no_fault-append ports version (RowOf (row_line_of row) ∷ before) (map at_statement row.at) (link_statements row.link) passed.none linked.none);
      later = rw (onto-append (RowOf (row_line_of row) ∷ before) (map at_statement row.at) (link_statements row.link)) (record {
        last = omega (arith, last);
        cells = linked.cells;
        count = rw linked.rows (omega (arith, count));
        few = λ location. rw linked.rows (let few_there = state.few location in let more = counted row (filter_map row_line before) rows location in omega (arith, few_there, more));
      });
    }

AllRowsWithin : Stated → List (Row Value) → Type 0
AllRowsWithin cert rows = All (λ (row : Row Value). All (λ (at : At Value). IsWithin value_meaning at.value (cell_limit cert.limits at.address)) row.at) rows

rows_passed : (ports : Registers) (version : ℕ) (cert : Stated) → IsCert cert → (rows : List (Row Value)) → AllRowsWithin cert rows → AreVersioned version rows
    → (before : List Statement) → IsBeforeRows cert before rows
    → IsRowPassed ports version cert before (flat_map row_statements rows) []
unfolding NoFault onto AllRowsWithin AllWithin AreVersioned
rows_passed ports version cert good [] within are before state = record { none = tt; later = state }
rows_passed ports version cert good (row ∷ rows) within are before state =
    let first = row_passed ports version cert good row rows (All-head (λ (row : Row Value). All (λ (at : At Value). IsWithin value_meaning at.value (cell_limit cert.limits at.address)) row.at) row rows within) are.0 before state in
    let rest = rows_passed ports version cert good rows (All-tail (λ (row : Row Value). All (λ (at : At Value). IsWithin value_meaning at.value (cell_limit cert.limits at.address)) row.at) row rows within)
    are.1 (onto before (row_statements row)) first.later in
    record {
      none = no_fault-append ports version before (row_statements row) (flat_map row_statements rows) first.none rest.none;
      later = rw (onto-append before (row_statements row) (flat_map row_statements rows)) rest.later;
    }

-- ---- the end

-- no fault, and the text may end after them
pub record Finishes (ports : Registers) (version : ℕ) (before statements : List Statement) : Type 0 where
  pub none : NoFault ports version before statements
  pub ended : end_fault (faults ports) (onto before statements) ≡ None

finishes-append : (ports : Registers) (version : ℕ) (before xs ys : List Statement) → NoFault ports version before xs → Finishes ports version (onto before xs) ys → Finishes ports version before (xs ++ ys)
finishes-append ports version before xs ys none last = record {
  none = no_fault-append ports version before xs ys none last.none;
  ended = rw (onto-append before xs ys) last.ended;
}

end_finishes : (ports : Registers) (version : ℕ) (cert : Stated) (before : List Statement) → IsCert cert → IsBeforeRows cert before [] → Finishes ports version before (End ∷ [])
unfolding NoFault onto
end_finishes ports version cert before good state =
    let some = good.certificate.some_row in
    let count = state.count in
    record {
      none = (rw (in_order before kind.End 8 refl (let last = state.last in omega (arith, last)) state.last, ne_eqb (length (filter_map row_line before)) 0 (λ none. omega (arith, none, some, count))) refl, tt);
      ended = refl;
    }

-- after the kinds that stand by address there is no row yet
before_rows : (cert : Stated) (before : List Statement) → IsCert cert → AreLower 7 0 before → AreCellsOf cert before → IsBeforeRows cert before cert.rows
before_rows cert before good lower cells =
    let none = no_lines before lower in
    record {
      last = lower_last 7 0 before lower;
      cells = cells;
      count = rw none (omega arith);
      few = λ location. rw none (let few = good.few_at_one location in omega (arith, few));
    }

-- ---- the whole certificate

pub statements_finish : (machine : Machine) (version : ℕ) (cert : Stated) → IsCert cert → Suits value_meaning machine (certificate_of cert) → AreVersioned version cert.rows
    → Finishes machine.ports version [] (statements_of cert)
unfolding statements_of NoFault onto AllRowsWithin
statements_finish machine version cert good suits are =
    let ports = machine.ports in
    let b1 : List Statement = Start cert.start ∷ [] in
    let a2 = ascending (cell_statement cert) 2048 in
    let a3 = ascending (init_statement cert) 2048 in
    let a4 = ascending (input_statement cert) 4096 in
    let a5 = ascending (output_statement cert) 4096 in
    let a6 = ascending (place_statement cert) 4096 in
    let rows = flat_map row_statements cert.rows in
    let p2 = ascending_passed ports version cert 2 2048 (cell_statement cert) (cell_keeps ports version cert) b1
    (lower_kind 1 1 b1 (lower_more 1 0 (Start cert.start) [] refl (start_stands cert.start) (lower_none 1 0))) (cells_other cert (Start cert.start) [] refl (cells_none cert)) in
    let b2 = onto b1 a2 in
    let p3 = ascending_passed ports version cert 3 2048 (init_statement cert) (init_keeps ports version cert good) b2 (lower_kind 2 2048 b2 p2.lower) p2.cells in
    let b3 = onto b2 a3 in
    let p4 = ascending_passed ports version cert 4 4096 (input_statement cert) (input_keeps machine version cert suits) b3 (lower_kind 3 2048 b3 p3.lower) p3.cells in
    let b4 = onto b3 a4 in
    let p5 = ascending_passed ports version cert 5 4096 (output_statement cert) (output_keeps machine version cert suits) b4 (lower_kind 4 4096 b4 p4.lower) p4.cells in
    let b5 = onto b4 a5 in
    let p6 = ascending_passed ports version cert 6 4096 (place_statement cert) (place_keeps ports version cert) b5 (lower_kind 5 4096 b5 p5.lower) p5.cells in
    let b6 = onto b5 a6 in
    let lower = lower_kind 6 4096 b6 p6.lower in
    let pr = rows_passed ports version cert good cert.rows good.certificate.cells are b6 (before_rows cert b6 good lower p6.cells) in
    let finish = finishes-append ports version b1 a2 _ p2.none (finishes-append ports version b2 a3 _ p3.none (finishes-append ports version b3 a4 _ p4.none (finishes-append ports version b4 a5 _ p5.none
    (finishes-append ports version b5 a6 _ p6.none (finishes-append ports version b6 rows (End ∷ []) pr.none (end_finishes ports version cert (onto b6 rows) good pr.later)))))) in
    record { none = (refl, finish.none); ended = finish.ended }

pub text_faultless : (machine : Machine) (cert : Stated) → IsCert cert → Suits value_meaning machine (certificate_of cert)
    → first_fault (reading_fault machine.ports) [] (Opening (text_version cert) ∷ (map StatedBy (statements_of cert) ++ Ended ∷ [])) ≡ None
text_faultless machine cert good suits =
    let version = text_version cert in
    let finish = statements_finish machine version cert good suits (versioned cert.rows (has_links cert.rows) refl) in
    first_fault-faultless (reading_fault machine.ports) [] (Opening version) (map StatedBy (statements_of cert) ++ Ended ∷ []) refl
    ∙ readings_faultless machine.ports version (Opening version ∷ []) [] (statements_of cert) refl refl finish.none finish.ended
