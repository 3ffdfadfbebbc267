-- What is kept is sound by itself: it has its sizes, the rows are few, what is stated of a cell is within its limit, and the kinds came
-- in order. So a certificate comes of it.
use Rattle.std.proofs.Common.{◌≡◌, ℕ, ◌+◌, ◌<◌, ◌≤◌, Bool, true, false, ◌==◌, refl, sym, ap, ◌∙◌, subst, List, [], ◌∷◌, ◌++◌, length, get_or, set, Option, Some, None, arith}
use Rattle.std.specs.Prelude.{◌&&◌, nat_le, nat_lt, replicate, if◌then◌else◌}
use Rattle.std.proofs.lemmas.Bool.Decides.{nat_tests}
use Rattle.std.proofs.lemmas.List.{length-append, length-set, length-replicate}
use Rattle.std.proofs.lemmas.List.Elements.{All-append, All-nil, All-cons}
use Rattle.std.proofs.lemmas.List.Sums.{sum_by-append}
use Rattle.ags_domain.specs.declared.values.Value.{Value}
use Rattle.ags_row.specs.Cell.{value_among}
use Rattle.ags_row.specs.declared.ats.At.{At as Cell_at}
use Rattle.ags_row.specs.declared.links.Link.{Link}
use Rattle.ags_row.specs.declared.rows.Row.{Row as Row_of}
use Rattle.ags_certtype.specs.Cert.{rows_at}
use Rattle.ags_certtext.specs.declared.statements.Entry.{Entry}
use Rattle.ags_certtext.specs.declared.statements.RowLine.{RowLine}
use Rattle.ags_certtext.specs.declared.statements.Statement.{Statement}
use Rattle.ags_certtext.specs.declared.statements.Statement.TheVariants.{Start, Entry as EntryOf, May, Row, Linked, End}
use Rattle.ags_certtext.specs.declared.kinds.Table.TheVariants.{Cell, Init, In, Out, At}
use Rattle.ags_certtext.specs.declared.kinds.Kind.{Kind}
use Rattle.ags_certtext.specs.declared.kinds.Kind.TheVariants as kind
use Rattle.ags_certtext.specs.Spelling.{is_offset}
use Rattle.ags_certtext.specs.Statement.{IsStatement}
use Rattle.ags_certtext.specs.Fault.{is_outside}
use Rattle.ags_certread.specs.Sound.{AreFew, AreInside, IsEarly, IsSound, RowInside, kinds_come, open_at}
use Rattle.ags_certread.specs.Gathering.{Gathering, Closes, IsClosed, IsOpenRow, IsPlaced, IsSized, has_cell, nothing_stated, row_count, stated, with_entry, with_statement}
use Rattle.ags_certread.proofs.TableLemmas.{each_same, set_read, same_of}
use Rattle.ags_certread.proofs.CellLemmas.{count_more, value_more, ascend_more}
use Rattle.ags_certread.proofs.FaultLemmas.{EndsRow, IsClear, IsFine, none_last, below_fixed, last_row, no_higher, room}

no_row_open : IsOpenRow None [] None
no_row_open = record { line = tt; a = tt; q = tt; few = omega arith; ascending = refl; link = refl }

pub IsSound-none : IsSound nothing_stated
IsSound-none = record {
  sized = record {
    cells = length-replicate {A = Option Value} 2048 None;
    init = length-replicate {A = Option Value} 2048 None;
    inputs = length-replicate {A = Option Value} 4096 None;
    outputs = length-replicate {A = Option Value} 4096 None;
    places = length-replicate {A = Bool} 4096 false;
    counts = length-replicate {A = ℕ} 4096 0;
  };
  start = omega arith;
  closable = no_row_open;
  few = record {
    most = omega arith;
    each = λ location. sym (each_same {E = ℕ} 4096 0 location);
    few = λ location. rw (each_same {E = ℕ} 4096 0 location) (omega arith);
  };
  inside = record {
    firsts = λ address. rw (each_same {E = Option Value} 2048 None address) refl;
    in_rows = All-nil (RowInside (replicate 2048 None));
    in_cells = λ address. refl;
  };
  early = record {
    no_init = λ low address. each_same {E = Option Value} 2048 None address;
    no_rows = λ low. refl;
    no_line = λ low. refl;
    no_cells = λ none. refl;
    no_link = λ none. refl;
    ended = λ end. refl;
    some_row = λ end. let clash : ◌≡◌ {A = Option Kind} None (Some kind.End) = end in absurd cc;
  };
}

-- ---- the open row is closed

-- the tables keep their sizes whatever is kept of the rows
pub sized_beside : (g : Gathering) (rows : List (Row_of Value)) (line : Option RowLine) (row_cells : List (Cell_at Value)) (row_link : Option Link) → IsSized g
    → IsSized (record g { rows = rows; line = line; row_cells = row_cells; row_link = row_link })
sized_beside g rows line row_cells row_link s = record { cells = s.cells; init = s.init; inputs = s.inputs; outputs = s.outputs; places = s.places; counts = s.counts }

added_at : (rows : List (Row_of Value)) (row : Row_of Value) (line : RowLine) (location : ℕ) → row.location ≡ line.location
    → rows_at (rows ++ row ∷ []) location + 0 ≡ rows_at rows location + (if line.location == location then 1 else 0)
added_at rows row line location same =
    let parts = sum_by-append (λ (r : Row_of Value). if r.location == location then 1 else 0) rows (row ∷ []) in
    let here : ◌≡◌ {A = ℕ} (if row.location == location then 1 else 0) (if line.location == location then 1 else 0) =
    ap {B = ℕ} (λ (n : ℕ). if n == location then 1 else 0) same in
    omega (arith, parts, here)

module _ (g : Gathering) (line : RowLine) (row : Row_of Value) (is : g.line ≡ Some line) (closed : IsClosed line g.row_cells g.row_link row) (sound : IsSound g) where
  never_none : g.line ≡ None → ⊥
  never_none none = let clash : ◌≡◌ {A = Option RowLine} (Some line) None = sym is ∙ none in absurd cc

  few_closed : AreFew (g.rows ++ row ∷ []) None g.counts
  few_closed =
      let most : length g.rows + 1 ≤ 20000 = rw is at sound.few.most in
      record {
        most = (let longer = length-append g.rows (row ∷ []) in omega (arith, most, longer));
        each = λ location. added_at g.rows row line location closed.location
            ∙ ap (λ (l : Option RowLine). rows_at g.rows location + open_at l location) (sym is) ∙ sound.few.each location;
        few = sound.few.few;
      }

  row_inside : RowInside g.cells row
  row_inside address = rw closed.at (sound.inside.in_cells address)

  pub sound_closed : IsSound (record g { rows = g.rows ++ row ∷ []; line = None; row_cells = []; row_link = None })
  sound_closed = record {
    sized = sized_beside g (g.rows ++ row ∷ []) None [] None sound.sized;
    start = sound.start;
    closable = no_row_open;
    few = few_closed;
    inside = record {
      firsts = sound.inside.firsts;
      in_rows = All-append (RowInside g.cells) g.rows (row ∷ []) sound.inside.in_rows (All-cons (RowInside g.cells) row [] row_inside (All-nil (RowInside g.cells)));
      in_cells = λ address. refl;
    };
    early = record {
      no_init = sound.early.no_init;
      no_rows = λ low. absurd (never_none (sound.early.no_line low));
      no_line = λ low. refl;
      no_cells = λ none. refl;
      no_link = λ none. refl;
      ended = λ end. refl;
      some_row = λ end. absurd (never_none (sound.early.ended end));
    };
  }

pub sound_shut : (g m : Gathering) (line : Option RowLine) → g.line ≡ line → Closes line g m → IsSound g → IsSound m
sound_shut g m None is closes sound = subst (λ (h : Gathering). IsSound h) (sym closes) sound
sound_shut g m (Some line) is closes sound = subst (λ (h : Gathering). IsSound h) (sym closes.2) (sound_closed g line closes.0 is closes.1 sound)

-- the line of the open row is gone
pub line_gone : (g m : Gathering) (line : Option RowLine) → g.line ≡ line → Closes line g m → m.line ≡ None
line_gone g m None is closes = subst (λ (h : Gathering). h.line ≡ None) (sym closes) is
line_gone g m (Some line) is closes = subst (λ (h : Gathering). h.line ≡ None) (sym closes.2) refl

-- ---- the fault of a statement stays when the row before it is closed

count_kept : (g : Gathering) (line : RowLine) (row : Row_of Value) → g.line ≡ Some line → length (g.rows ++ row ∷ []) + 0 ≡ row_count g
count_kept g line row is = let longer = length-append g.rows (row ∷ []) in rw is (omega (arith, longer))

clear_kept : (g : Gathering) (line : RowLine) (row : Row_of Value) → g.line ≡ Some line → (statement : Statement) → EndsRow statement → IsClear g statement
    → IsClear (record g { rows = g.rows ++ row ∷ []; line = None; row_cells = []; row_link = None }) statement
clear_kept g line row kept (Start location) ends is = tt
clear_kept g line row kept (EntryOf At entry) ends is = absurd ends
clear_kept g line row kept (EntryOf table entry) ends is = record { place = is.place; once = is.once; some = is.some; within = is.within; room = refl }
clear_kept g line row kept (May location) ends is = tt
clear_kept g line row kept (Linked link) ends is = absurd ends
clear_kept g line row kept (Row next) ends is =
    record { a = is.a; q = is.q; few = subst (λ (n : ℕ). n < 20000) (sym (count_kept g line row kept)) is.few; room = is.room }
clear_kept g line row kept End ends is = subst (λ (n : ℕ). 1 ≤ n) (sym (count_kept g line row kept)) is

pub fine_shut : (g m : Gathering) (line : Option RowLine) → g.line ≡ line → Closes line g m → (statement : Statement)
    → EndsRow statement → IsFine g statement → IsFine m statement
fine_shut g m None is closes statement ends fine = subst (λ (h : Gathering). IsFine h statement) (sym closes) fine
fine_shut g m (Some line) is closes statement ends fine = subst (λ (h : Gathering). IsFine h statement) (sym closes.2) (record {
  order = fine.order;
  part = clear_kept g line closes.0 is statement ends fine.part;
})

pub counts_shut : (g m : Gathering) (line : Option RowLine) → Closes line g m → m.counts ≡ g.counts
counts_shut g m None closes = ap (λ (h : Gathering). h.counts) closes
counts_shut g m (Some line) closes = ap (λ (h : Gathering). h.counts) closes.2

-- ---- a statement is added

sized_more : (m : Gathering) (statement : Statement) → IsSized m → IsSized (with_statement m statement)
sized_more m (EntryOf Cell entry) s =
    record { cells = length-set m.cells entry.address entry.value ∙ s.cells; init = s.init; inputs = s.inputs; outputs = s.outputs; places = s.places; counts = s.counts }
sized_more m (EntryOf Init entry) s =
    record { cells = s.cells; init = length-set m.init entry.address entry.value ∙ s.init; inputs = s.inputs; outputs = s.outputs; places = s.places; counts = s.counts }
sized_more m (EntryOf In entry) s =
    record { cells = s.cells; init = s.init; inputs = length-set m.inputs entry.address entry.value ∙ s.inputs; outputs = s.outputs; places = s.places; counts = s.counts }
sized_more m (EntryOf Out entry) s =
    record { cells = s.cells; init = s.init; inputs = s.inputs; outputs = length-set m.outputs entry.address entry.value ∙ s.outputs; places = s.places; counts = s.counts }
sized_more m (May location) s =
    record { cells = s.cells; init = s.init; inputs = s.inputs; outputs = s.outputs; places = length-set m.places location true ∙ s.places; counts = s.counts }
sized_more m (Row row) s = record {
  cells = s.cells;
  init = s.init;
  inputs = s.inputs;
  outputs = s.outputs;
  places = s.places;
  counts = length-set m.counts row.location (get_or m.counts row.location 0 + 1) ∙ s.counts;
}
sized_more m _ s = record { cells = s.cells; init = s.init; inputs = s.inputs; outputs = s.outputs; places = s.places; counts = s.counts }

-- the last kind was no higher than the kind of a statement that stands in order, and wasn't the end
module _ (m : Gathering) (sound : IsSound m) (shut : m.line ≡ None) where
  no_init_yet : kinds_come m.last ≤ 2 → (address : ℕ) → stated m.init address ≡ None
  no_init_yet low = sound.early.no_init low

  no_rows_yet : kinds_come m.last ≤ 6 → m.rows ≡ []
  no_rows_yet low = sound.early.no_rows low

  -- a kind up to the named places: no row was stated
  early_kind : (its : Option Kind) (number : ℕ) (init : List (Option Value)) → kinds_come its ≡ number → kinds_come m.last ≤ number → number ≤ 6
      → (number ≤ 2 → (address : ℕ) → stated init address ≡ None) → IsEarly its init m.rows m.line m.row_cells m.row_link
  early_kind its number init own order low none = record {
    no_init = λ least. none (let few : kinds_come its ≤ 2 = least in omega (arith, few, own));
    no_rows = λ least. no_rows_yet (omega (arith, order, low));
    no_line = λ least. shut;
    no_cells = sound.early.no_cells;
    no_link = sound.early.no_link;
    ended = λ end. shut;
    some_row = λ end. absurd (let last : kinds_come its ≡ 8 = ap kinds_come end in omega (arith, last, own, low));
  }

  no_cells : m.row_cells ≡ []
  no_cells = sound.early.no_cells shut

  -- a row, or the end
  late_kind : (its : Option Kind) (number : ℕ) (line : Option RowLine) → kinds_come its ≡ number → 7 ≤ number → (its ≡ Some kind.End → line ≡ None)
      → (its ≡ Some kind.End → 1 ≤ length m.rows) → IsEarly its m.init m.rows line m.row_cells m.row_link
  late_kind its number line own late ended some_row = record {
    no_init = λ low. absurd (let few : kinds_come its ≤ 2 = low in omega (arith, few, own, late));
    no_rows = λ low. absurd (let few : kinds_come its ≤ 6 = low in omega (arith, few, own, late));
    no_line = λ low. absurd (let few : kinds_come its ≤ 6 = low in omega (arith, few, own, late));
    no_cells = λ none. no_cells;
    no_link = λ none. sound.early.no_link shut;
    ended = ended;
    some_row = some_row;
  }

  inside_cell : (entry : Entry) → kinds_come m.last ≤ 2 → AreInside (set m.cells entry.address entry.value) m.init m.rows m.row_cells
  inside_cell entry low = record {
    firsts = λ address. rw (no_init_yet low address) refl;
    in_rows = rw (no_rows_yet (omega (arith, low))) (All-nil (RowInside (set m.cells entry.address entry.value)));
    in_cells = λ address. rw no_cells refl;
  }

  first_inside : (entry : Entry) → entry.address < length m.init → is_outside entry.value (stated m.cells entry.address) ≡ false
      → (address : ℕ) (b : Bool) → (entry.address == address) ≡ b → is_outside (stated (set m.init entry.address entry.value) address) (stated m.cells address) ≡ false
  first_inside entry inside within address true same =
      rw (set_read m.init entry.address address entry.value None inside true same)
      (ap (λ (n : ℕ). is_outside entry.value (stated m.cells n)) (sym (same_of entry.address address same)) ∙ within)
  first_inside entry inside within address false same =
      rw (set_read m.init entry.address address entry.value None inside false same) (sound.inside.firsts address)

  few_row : (row : RowLine) → row.location < length m.counts → row_count m < 20000 → get_or m.counts row.location 0 < 512
      → AreFew m.rows (Some row) (set m.counts row.location (get_or m.counts row.location 0 + 1))
  few_row row inside few room = record {
    most = (let count : length m.rows + 0 < 20000 = rw shut at few in omega (arith, count));
    each = λ location. each_row location (row.location == location) refl;
    few = λ location. few_rows location (row.location == location) refl;
  }
    where
      read : (location : ℕ) (b : Bool) → (row.location == location) ≡ b
          → get_or (set m.counts row.location (get_or m.counts row.location 0 + 1)) location 0 ≡ (if b then get_or m.counts row.location 0 + 1 else get_or m.counts location 0)
      read location b same = set_read m.counts row.location location (get_or m.counts row.location 0 + 1) 0 inside b same

      each_row : (location : ℕ) (b : Bool) → (row.location == location) ≡ b
          → rows_at m.rows location + (if row.location == location then 1 else 0) ≡ get_or (set m.counts row.location (get_or m.counts row.location 0 + 1)) location 0
      each_row location true same =
          let new = read location true same in
          let old : rows_at m.rows location + 0 ≡ get_or m.counts location 0 =
          ap (λ (l : Option RowLine). rows_at m.rows location + open_at l location) (sym shut) ∙ sound.few.each location in
          let here = ap (λ (n : ℕ). get_or m.counts n 0) (same_of row.location location same) in
          rw same (omega (arith, new, old, here))
      each_row location false same =
          let new = read location false same in
          let old : rows_at m.rows location + 0 ≡ get_or m.counts location 0 =
          ap (λ (l : Option RowLine). rows_at m.rows location + open_at l location) (sym shut) ∙ sound.few.each location in
          rw same (omega (arith, new, old))

      few_rows : (location : ℕ) (b : Bool) → (row.location == location) ≡ b → get_or (set m.counts row.location (get_or m.counts row.location 0 + 1)) location 0 ≤ 512
      few_rows location true same = let new = read location true same in omega (arith, new, room)
      few_rows location false same = let new = read location false same in let old = sound.few.few location in omega (arith, new, old)

  start_more : (statement : Statement) → IsStatement statement → (with_statement m statement).start < 4096
  start_more (Start location) is = is
  start_more (EntryOf Cell entry) is = sound.start
  start_more _ is = sound.start

  closable_more : (statement : Statement) → IsFine m statement → IsStatement statement → EndsRow statement
      → IsOpenRow (with_statement m statement).line (with_statement m statement).row_cells (with_statement m statement).row_link
  closable_more (Row row) fine is ends = record { line = is; a = fine.part.a; q = fine.part.q; few = sound.closable.few; ascending = sound.closable.ascending; link = sound.closable.link }
  closable_more (EntryOf At entry) fine is ends = absurd ends
  closable_more (Linked link) fine is ends = absurd ends
  closable_more _ fine is ends = sound.closable

  few_more : (statement : Statement) → IsFine m statement → IsPlaced m.counts statement
      → AreFew (with_statement m statement).rows (with_statement m statement).line (with_statement m statement).counts
  few_more (Row row) fine inside = few_row row (rw sound.sized.counts inside.0) fine.part.few fine.part.room
  few_more (EntryOf Cell entry) fine inside = sound.few
  few_more _ fine inside = sound.few

  inside_more : (statement : Statement) → IsFine m statement → IsPlaced m.counts statement → EndsRow statement
      → AreInside (with_statement m statement).cells (with_statement m statement).init (with_statement m statement).rows (with_statement m statement).row_cells
  inside_more (EntryOf Cell entry) fine inside ends = inside_cell entry (no_higher m.last kind.Cell fine.order)
  inside_more (EntryOf Init entry) fine inside ends = record {
    firsts = λ address. first_inside entry (rw sound.sized.init inside) fine.part.within address (entry.address == address) refl;
    in_rows = sound.inside.in_rows;
    in_cells = sound.inside.in_cells;
  }
  inside_more (EntryOf At entry) fine inside ends = absurd ends
  inside_more _ fine inside ends = sound.inside

  -- what is in the table of the start says nothing to a kind after it
  behind_start : (least : ℕ) (init : List (Option Value)) → 3 ≤ least → least ≤ 2 → (address : ℕ) → stated init address ≡ None
  behind_start least init late low = absurd (omega (arith, late, low))

  early_more : (statement : Statement) → IsFine m statement → EndsRow statement
      → IsEarly (with_statement m statement).last (with_statement m statement).init (with_statement m statement).rows (with_statement m statement).line
      (with_statement m statement).row_cells (with_statement m statement).row_link
  early_more (Start location) fine ends =
      let none : kinds_come m.last ≡ 0 = ap kinds_come (none_last m.last fine.order) in
      early_kind (Some kind.Start) 1 m.init refl (omega (arith, none)) (omega arith) (λ low. no_init_yet (omega (arith, none)))
  early_more (EntryOf Cell entry) fine ends =
      let low : kinds_come m.last ≤ 2 = no_higher m.last kind.Cell fine.order in early_kind (Some kind.Cell) 2 m.init refl low (omega arith) (λ least. no_init_yet low)
  early_more (EntryOf Init entry) fine ends =
      let init = set m.init entry.address entry.value in
      early_kind (Some kind.Init) 3 init refl (no_higher m.last kind.Init fine.order) (omega arith) (behind_start 3 init (omega arith))
  early_more (EntryOf In entry) fine ends =
      early_kind (Some kind.In) 4 m.init refl (no_higher m.last kind.In fine.order) (omega arith) (behind_start 4 m.init (omega arith))
  early_more (EntryOf Out entry) fine ends =
      early_kind (Some kind.Out) 5 m.init refl (no_higher m.last kind.Out fine.order) (omega arith) (behind_start 5 m.init (omega arith))
  early_more (EntryOf At entry) fine ends = absurd ends
  early_more (Linked link) fine ends = absurd ends
  early_more (May location) fine ends =
      early_kind (Some kind.May) 6 m.init refl (no_higher m.last kind.May fine.order) (omega arith) (behind_start 6 m.init (omega arith))
  early_more (Row row) fine ends = late_kind (Some kind.Row) 7 (Some row) refl (omega arith) (λ end. absurd (no_end end)) (λ end. absurd (no_end end))
    where
      no_end : ◌≡◌ {A = Option Kind} (Some kind.Row) (Some kind.End) → ⊥
      no_end end = let clash : ◌≡◌ {A = ℕ} 7 8 = ap kinds_come end in omega (arith, clash)
  early_more End fine ends = late_kind (Some kind.End) 8 m.line refl (omega arith) (λ end. shut) (λ end.
      let count : 1 ≤ length m.rows + 0 = rw shut at fine.part in
      omega (arith, count))

  pub sound_more : (statement : Statement) → IsFine m statement → IsStatement statement → IsPlaced m.counts statement
      → EndsRow statement → IsSound (with_statement m statement)
  sound_more statement fine is inside ends = record {
    sized = sized_more m statement sound.sized;
    start = start_more statement is;
    closable = closable_more statement fine is ends;
    few = few_more statement fine inside;
    inside = inside_more statement fine inside ends;
    early = early_more statement fine ends;
  }

-- ---- a cell of the open row

module _ (g : Gathering) (sound : IsSound g) (entry : Entry) (once : has_cell g.row_cells entry.address ≡ false) (below : entry.address < 2048)
    (few : length g.row_cells < 64) (within : is_outside entry.value (stated g.cells entry.address) ≡ false) where
  cell_inside : (value : Value) → entry.value ≡ Some value → (address : ℕ) (b : Bool) → (entry.address == address) ≡ b
      → is_outside (if entry.address == address then Some value else value_among g.row_cells address) (stated g.cells address) ≡ false
  cell_inside value is address true same =
      rw same (ap (λ (n : ℕ). is_outside (Some value) (stated g.cells n)) (sym (same_of entry.address address same)) ∙ rw is at within)
  cell_inside value is address false same = rw same (sound.inside.in_cells address)

  at_sound : (value : Option Value) → entry.value ≡ value → (g.line ≡ None → ⊥) → IsSound (record g { row_cells = with_entry entry value g.row_cells })
  at_sound None is never = sound
  at_sound (Some value) is never = record {
    sized = sized_beside g g.rows g.line (with_entry entry (Some value) g.row_cells) g.row_link sound.sized;
    start = sound.start;
    closable = record {
      line = sound.closable.line;
      a = sound.closable.a;
      q = sound.closable.q;
      few = (let more = count_more (record { address = entry.address; value = value }) g.row_cells in omega (arith, more, few));
      ascending = ascend_more (record { address = entry.address; value = value }) 0 g.row_cells (omega arith) below once sound.closable.ascending;
      link = sound.closable.link;
    };
    few = sound.few;
    inside = record {
      firsts = sound.inside.firsts;
      in_rows = sound.inside.in_rows;
      in_cells = λ address. rw (value_more (record { address = entry.address; value = value }) g.row_cells address once)
          (cell_inside value is address (entry.address == address) refl);
    };
    early = record {
      no_init = sound.early.no_init;
      no_rows = sound.early.no_rows;
      no_line = sound.early.no_line;
      no_cells = λ none. absurd (never none);
      no_link = λ none. absurd (never none);
      ended = sound.early.ended;
      some_row = sound.early.some_row;
    };
  }

pub sound_at : (g : Gathering) (entry : Entry) → IsSound g → IsFine g (EntryOf At entry) → (g.line ≡ None → ⊥)
    → IsSound (with_statement g (EntryOf At entry))
sound_at g entry sound fine never =
    subst (λ (last : Option Kind). IsSound (record g { last = last; row_cells = with_entry entry entry.value g.row_cells })) (last_row g.last fine.order)
    (at_sound g sound entry fine.part.once (below_fixed g entry fine) (room (length g.row_cells) 64 fine.part.room) fine.part.within entry.value refl never)

-- ---- the link of the open row

erasable_link : (address : ℕ) (offset : Bool) → nat_le 2048 address ≡ false → offset ≡ true → (nat_lt address 2048 && offset) ≡ true
erasable_link address offset erasable is = grind (arith, nat_tests)

pub sound_link : (g : Gathering) (link : Link) → IsSound g → IsFine g (Linked link) → IsStatement (Linked link) → (g.line ≡ None → ⊥)
    → IsSound (with_statement g (Linked link))
sound_link g link sound fine is never =
    subst (λ (last : Option Kind). IsSound (record g { last = last; row_link = Some link })) (last_row g.last fine.order) (record {
      sized = sized_beside g g.rows g.line g.row_cells (Some link) sound.sized;
      start = sound.start;
      closable = record {
        line = sound.closable.line;
        a = sound.closable.a;
        q = sound.closable.q;
        few = sound.closable.few;
        ascending = sound.closable.ascending;
        link = erasable_link link.address (is_offset link.offset) fine.part.erasable is.offset;
      };
      few = sound.few;
      inside = sound.inside;
      early = record {
        no_init = sound.early.no_init;
        no_rows = sound.early.no_rows;
        no_line = sound.early.no_line;
        no_cells = λ none. absurd (never none);
        no_link = λ none. absurd (never none);
        ended = sound.early.ended;
        some_row = sound.early.some_row;
      };
    })

-- ---- the version that was opened says nothing of the statements

pub sound_opened : (g : Gathering) (version : ℕ) → IsSound g → IsSound (record g { version = version })
sound_opened g version sound = record {
  sized = record {
    cells = sound.sized.cells;
    init = sound.sized.init;
    inputs = sound.sized.inputs;
    outputs = sound.sized.outputs;
    places = sound.sized.places;
    counts = sound.sized.counts;
  };
  start = sound.start;
  closable = sound.closable;
  few = sound.few;
  inside = sound.inside;
  early = sound.early;
}
