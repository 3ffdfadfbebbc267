-- What is kept stands for the statements so far, and so it goes on.
use Rattle.std.proofs.Common.{◌≡◌, ℕ, ◌+◌, ◌<◌, Bool, true, false, ◌||◌, ◌==◌, refl, sym, ap, ◌∙◌, subst, List, [], ◌∷◌, ◌++◌, length, reverse, get_or, set, Option, Some, None, arith}
use Rattle.std.specs.Prelude.{is_some}
use Rattle.std.specs.List.{list_any, filter_map}
use Rattle.std.proofs.lemmas.List.{length-append}
use Rattle.ags_domain.specs.declared.values.Value.{Value}
use Rattle.ags_row.specs.declared.ats.At.{At as Cell_at}
use Rattle.ags_row.specs.declared.links.Link.{Link}
use Rattle.ags_row.specs.declared.rows.Row.{Row as Row_of}
use Rattle.ags_certtext.specs.declared.kinds.Kind.{Kind}
use Rattle.ags_certtext.specs.declared.kinds.Kind.TheVariants as kind
use Rattle.ags_certtext.specs.declared.statements.Entry.{Entry}
use Rattle.ags_certtext.specs.declared.statements.RowLine.{RowLine}
use Rattle.ags_certtext.specs.declared.statements.Statement.{Statement}
use Rattle.ags_certtext.specs.declared.statements.Statement.TheVariants.{Start, Entry as EntryOf, May, Row, Linked}
use Rattle.ags_certtext.specs.declared.kinds.Table.TheVariants.{Cell, At}
use Rattle.ags_certtext.specs.Fault.{rows_at}
use Rattle.ags_certtext.specs.Kind.{is_last, last_kind}
use Rattle.ags_certtext.specs.Statement.{may_place, row_line, row_entries, row_links}
use Rattle.ags_certtext.specs.Text.{IsLinkOf, start_of}
use Rattle.ags_certread.specs.Before.{AreCounted, AreEntered, AreGatheredRows, AreNamed, AreTables, Gathered}
use Rattle.ags_certread.specs.Gathering.{Gathering, Closes, IsPlaced, IsSized, nothing_stated, row_count, with_statement}
use Rattle.ags_certread.proofs.TableLemmas.{IsTable-none, each_same, set_read, same_of}
use Rattle.ags_certread.proofs.EntryLemmas.{entry_entered}
use Rattle.ags_certread.proofs.CellLemmas.{AreCells-none, AreCells-more}
use Rattle.ags_certread.proofs.RowLemmas.{AreShutRows, shut_closed, shut_open, start_kept}
use Rattle.ags_certread.proofs.FaultLemmas.{EndsRow, IsFine, last_row, none_last}

-- what is kept stands for the statements, where no row is open
pub record IsShut (before : List Statement) (g : Gathering) : Type 0 where
  pub tables : AreTables before g
  pub rows : AreShutRows before g.rows g.line g.row_cells g.row_link
  pub count : length g.rows ≡ length (filter_map row_line before)

pub Gathered-none : Gathered [] nothing_stated
Gathered-none = record {
  tables = record {
    last = refl;
    start = refl;
    entered = record { cells = IsTable-none 2048; init = IsTable-none 2048; inputs = IsTable-none 4096; outputs = IsTable-none 4096 };
    places = λ location. each_same {E = Bool} 4096 false location;
    counts = λ location. each_same {E = ℕ} 4096 0 location;
  };
  rows = record { line = refl; cells = AreCells-none; link = refl; closed = tt };
  count = refl;
  some_line = λ row none. let clash : ◌≡◌ {A = Option Kind} None (Some kind.Row) = row in absurd cc;
}

-- ---- the open row is closed

-- the tables stay whatever is kept of the rows
tables_kept : (before : List Statement) (g : Gathering) (rows : List (Row_of Value)) (line : Option RowLine) (row_cells : List (Cell_at Value)) (row_link : Option Link)
    → AreTables before g → AreTables before (record g { rows = rows; line = line; row_cells = row_cells; row_link = row_link })
tables_kept before g rows line row_cells row_link are = record {
  last = are.last;
  start = are.start;
  entered = record { cells = are.entered.cells; init = are.entered.init; inputs = are.entered.inputs; outputs = are.entered.outputs };
  places = are.places;
  counts = are.counts;
}

one_more : (count : ℕ) (rows : List (Row_of Value)) (row : Row_of Value) → length rows + 1 ≡ count → length (rows ++ row ∷ []) ≡ count
one_more count rows row is = length-append rows (row ∷ []) ∙ is

pub shut : (before : List Statement) (g m : Gathering) (line : Option RowLine) → g.line ≡ line → Closes line g m → Gathered before g
    → (g.line ≡ None → g.row_cells ≡ []) → (g.line ≡ None → g.row_link ≡ None) → IsShut before m
shut before g m None is closes gathered empty unlinked = subst (λ (h : Gathering). IsShut before h) (sym closes) (record {
  tables = gathered.tables;
  rows = subst (λ (l : Option RowLine). AreShutRows before g.rows l g.row_cells g.row_link) (sym is)
      (shut_open before g.rows g.row_cells g.row_link
      (subst (λ (l : Option RowLine). AreGatheredRows before g.rows l g.row_cells g.row_link) is gathered.rows) (empty is) (unlinked is));
  count = (let count : length g.rows + 0 ≡ length (filter_map row_line before) = rw is at gathered.count in omega (arith, count));
})
shut before g m (Some line) is closes gathered empty unlinked = subst (λ (h : Gathering). IsShut before h) (sym closes.2) (record {
  tables = tables_kept before g (g.rows ++ closes.0 ∷ []) None [] None gathered.tables;
  rows = shut_closed before g.rows line g.row_cells g.row_link closes.0
      (subst (λ (l : Option RowLine). AreGatheredRows before g.rows l g.row_cells g.row_link) is gathered.rows) closes.1;
  count = one_more (length (filter_map row_line before)) g.rows closes.0 (rw is at gathered.count);
})

-- ---- a statement is added to the tables

-- no kind was the last where there is no statement
none_before : (before : List Statement) → last_kind before ≡ None → before ≡ []
none_before [] is = refl
none_before (statement ∷ before) is = absurd cc

module _ (before : List Statement) (m : Gathering) (are : AreTables before m) (sized : IsSized m) where
  named : (location : ℕ) → location < length m.places → (other : ℕ) (b : Bool) → (location == other) ≡ b
      → get_or (set m.places location true) other false ≡ (b || list_any (λ (place : ℕ). place == other) (filter_map may_place before))
  named location inside other true same = set_read m.places location other true false inside true same
  named location inside other false same = set_read m.places location other true false inside false same ∙ are.places other

  counted : (row : RowLine) → row.location < length m.counts → (other : ℕ) (b : Bool) → (row.location == other) ≡ b
      → get_or (set m.counts row.location (get_or m.counts row.location 0 + 1)) other 0 ≡ length (rows_at (Row row ∷ before) other)
  counted row inside other true same =
      let more = set_read m.counts row.location other (get_or m.counts row.location 0 + 1) 0 inside true same in
      let here = ap (λ (n : ℕ). get_or m.counts n 0) (same_of row.location other same) in
      let so_far = are.counts other in
      rw same (omega (arith, more, here, so_far))
  counted row inside other false same =
      set_read m.counts row.location other (get_or m.counts row.location 0 + 1) 0 inside false same ∙ are.counts other ∙ rw same refl

  start_more : (statement : Statement) → IsFine m statement → (with_statement m statement).start ≡ start_of (reverse (statement ∷ before))
  start_more (Start location) fine =
      let none = none_before before (sym are.last ∙ none_last m.last fine.order) in ap (λ (l : List Statement). start_of (reverse (Start location ∷ l))) (sym none)
  start_more (EntryOf At entry) fine = are.start ∙ sym (start_kept before (EntryOf At entry) refl)
  start_more statement fine = are.start ∙ sym (start_kept before statement refl)

  entered_more : (statement : Statement) → IsFine m statement → IsPlaced m.counts statement → AreEntered (statement ∷ before) (with_statement m statement)
  entered_more (EntryOf table entry) fine inside =
      let entered = entry_entered before m entry are.entered sized fine.part.some table inside fine.part.once in
      record { cells = entered.cells; init = entered.init; inputs = entered.inputs; outputs = entered.outputs }
  entered_more _ fine inside = record { cells = are.entered.cells; init = are.entered.init; inputs = are.entered.inputs; outputs = are.entered.outputs }

  places_more : (statement : Statement) → IsPlaced m.counts statement → AreNamed (statement ∷ before) (with_statement m statement).places
  places_more (May location) inside = λ other. named location (rw sized.places inside) other (location == other) refl
  places_more (EntryOf Cell entry) inside = are.places
  places_more _ inside = are.places

  counts_more : (statement : Statement) → IsPlaced m.counts statement → AreCounted (statement ∷ before) (with_statement m statement).counts
  counts_more (Row row) inside = λ other. counted row (rw sized.counts inside.0) other (row.location == other) refl
  counts_more (EntryOf Cell entry) inside = are.counts
  counts_more _ inside = are.counts

  tables_more : (statement : Statement) → IsFine m statement → IsPlaced m.counts statement → AreTables (statement ∷ before) (with_statement m statement)
  tables_more statement fine inside = record {
    last = refl;
    start = start_more statement fine;
    entered = entered_more statement fine inside;
    places = places_more statement inside;
    counts = counts_more statement inside;
  }

-- ---- and to all that is kept

-- a statement that doesn't belong to a row
module _ (before : List Statement) (m : Gathering) (is : IsShut before m) (sized : IsSized m) where
  rows_more : (statement : Statement) → EndsRow statement
      → AreGatheredRows (statement ∷ before) (with_statement m statement).rows (with_statement m statement).line (with_statement m statement).row_cells
      (with_statement m statement).row_link
  rows_more (Row row) ends = record { line = refl; cells = rw is.rows.cells AreCells-none; link = is.rows.link; closed = is.rows.closed }
  rows_more (EntryOf At entry) ends = absurd ends
  rows_more (Linked link) ends = absurd ends
  rows_more _ ends = record { line = is.rows.line; cells = rw is.rows.cells AreCells-none; link = is.rows.link; closed = is.rows.closed }

  count_more : (statement : Statement) → row_count (with_statement m statement) ≡ length (filter_map row_line (statement ∷ before))
  count_more (Row row) = let count = is.count in omega (arith, count)
  count_more (EntryOf Cell entry) = let count = is.count in rw is.rows.line (omega (arith, count))
  count_more _ = let count = is.count in rw is.rows.line (omega (arith, count))

  some_line_more : (statement : Statement) → EndsRow statement → (with_statement m statement).last ≡ Some kind.Row → (with_statement m statement).line ≡ None → ⊥
  some_line_more (Row row) ends last none = let clash : ◌≡◌ {A = Option RowLine} (Some row) None = none in absurd cc
  some_line_more (EntryOf At entry) ends last none = absurd ends
  some_line_more (Linked link) ends last none = absurd ends
  some_line_more _ ends last none = let clash : false ≡ true = ap (λ (k : Option Kind). is_last kind.Row k) last in absurd cc

  pub Gathered-more : (statement : Statement) → IsFine m statement → IsPlaced m.counts statement → EndsRow statement
      → Gathered (statement ∷ before) (with_statement m statement)
  Gathered-more statement fine inside ends = record {
    tables = tables_more before m is.tables sized statement fine inside;
    rows = rows_more statement ends;
    count = count_more statement;
    some_line = some_line_more statement ends;
  }

-- a cell of the open row
pub Gathered-at : (before : List Statement) (g : Gathering) (entry : Entry) → Gathered before g → IsSized g → IsFine g (EntryOf At entry)
    → Gathered (EntryOf At entry ∷ before) (with_statement g (EntryOf At entry))
Gathered-at before g entry is sized fine = record {
  tables = tables_more before g is.tables sized (EntryOf At entry) fine tt;
  rows = record {
    line = is.rows.line;
    cells = AreCells-more (row_entries before) g.row_cells entry is.rows.cells fine.part.once entry.value refl fine.part.some;
    link = is.rows.link;
    closed = is.rows.closed;
  };
  count = is.count;
  some_line = λ row none. is.some_line (last_row g.last fine.order) none;
}

-- its link
pub Gathered-link : (before : List Statement) (g : Gathering) (link : Link) → Gathered before g → IsSized g → IsFine g (Linked link)
    → Gathered (Linked link ∷ before) (with_statement g (Linked link))
Gathered-link before g link is sized fine = record {
  tables = tables_more before g is.tables sized (Linked link) fine tt;
  rows = record {
    line = is.rows.line;
    cells = is.rows.cells;
    link = first_link (row_links before) g.row_link is.rows.link fine.part.once;
    closed = is.rows.closed;
  };
  count = is.count;
  some_line = λ row none. is.some_line (last_row g.last fine.order) none;
}
  where
    first_link : (links : List Link) (kept : Option Link) → IsLinkOf links kept → is_some kept ≡ false → IsLinkOf (link ∷ links) (Some link)
    first_link [] kept is none = refl
    first_link (only ∷ []) kept is none = let clash : true ≡ false = rw is at none in absurd cc
    first_link (one ∷ other ∷ links) kept is none = absurd is

-- the version that was opened says nothing of the statements
pub Gathered-opened : (before : List Statement) (g : Gathering) (version : ℕ) → Gathered before g → Gathered before (record g { version = version })
Gathered-opened before g version is = record {
  tables = record {
    last = is.tables.last;
    start = is.tables.start;
    entered = record { cells = is.tables.entered.cells; init = is.tables.entered.init; inputs = is.tables.entered.inputs; outputs = is.tables.entered.outputs };
    places = is.tables.places;
    counts = is.tables.counts;
  };
  rows = is.rows;
  count = is.count;
  some_line = is.some_line;
}
