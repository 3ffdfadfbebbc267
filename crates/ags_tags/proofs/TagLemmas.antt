-- The tags so far.
use Rattle.std.proofs.Common.{◌≡◌, ℕ, ◌-◌, ◌<◌, ◌≤◌, Bool, true, false, refl, sym, ap, ◌∙◌, subst, List, [], ◌∷◌, length, reverse, get_or, Option, Some, None, arith, nat_lt}
use Rattle.std.specs.Prelude.{All, unwrap_or, ◌==◌, ◌||◌, set, replicate, if◌then◌else◌}
use Rattle.std.specs.Option.{is_some}
use Rattle.std.proofs.lemmas.Bool.Decides.{nat_tests}
use Rattle.std.proofs.lemmas.List.{get_or-map, length-map, length-replicate, length-set}
use Rattle.std.proofs.lemmas.List.Elements.{All-head, All-tail}
use Rattle.ags_ports.specs.declared.registers.Port.{Port}
use Rattle.ags_statements.proofs.ReadLemmas.{chosen_reversed}
use Rattle.ags_tags.specs.Tag.{Scaling, any_tags, row_tags_at, rows_where}
use Rattle.ags_tags.specs.Gathering.{Gathered, TagsNoted, RowsNoted, IsAmong, by_address, by_row, gathered_of, is_scaled, is_tagged, with_entry}
use Rattle.ags_statements.specs.Taking.{TakesStatement, TellsUntaken}
use Rattle.ags_statements.specs.declared.gathers.Untaken.TheVariants.{Faulty}
use Rattle.ags_tags.specs.Text.{AreTags, AreRowTags, AreScales, entries, entry_in, faults, has_address, has_register, has_row, is_table, may_stand, row_entries, row_entry}
use Rattle.ags_tags.specs.declared.scale_errors.ScaleKind.TheVariants.{Twice}
use Rattle.ags_tags.specs.declared.gatherers.Gatherer.{Gatherer}
use Rattle.ags_tags.specs.declared.statements.Entry.{Entry}
use Rattle.ags_tags.specs.declared.statements.RowEntry.{RowEntry}
use Rattle.ags_tags.specs.declared.statements.ScaleLine.{ScaleLine}
use Rattle.ags_tags.specs.declared.statements.ScaleLine.TheVariants.{Scaled}
use Rattle.ags_tags.specs.declared.statements.Table.{Table}
use Rattle.ags_tags.specs.declared.statements.Table.TheVariants.{Cell, In, Out}
use Rattle.ags_tags.specs.declared.tags.Tag.{Tag}
use Rattle.ags_tags.specs.declared.tags.Tag.TheVariants.{Raw, Scale}
use Rattle.ags_tags.specs.declared.tags.RowTags.{RowTags}
use Rattle.ags_tags.proofs.NotedLemmas.{IsLawful, noted_nothing, noted_at, none_named, noted_more, whole_of, among_of, one_whole}

-- ---- how cells, registers and rows are named

by_address_lawful : IsLawful by_address
by_address_lawful = record {
  inside = λ count number names. names;
  back = λ count number names. refl;
  forth = λ position. refl;
  names = λ count position within. within;
}

by_row_lawful : IsLawful by_row
by_row_lawful = record {
  inside = λ count number names. (let first = names.first in let last = names.last in omega (arith, first, last));
  back = λ count number names. (let first = names.first in omega (arith, first));
  forth = λ position. omega arith;
  names = λ count position within. record { first = omega arith; last = omega (arith, within) };
}

-- ---- registers have addresses of cells

pub register_below : (ports : List Port) (address : ℕ) → All (λ (port : Port). port.address < 4096) ports → has_register ports address ≡ true → address < 4096
register_below [] address below found = absurd cc
register_below (port ∷ ports) address below found =
    by_first (port.address == address) refl (register_below ports address (All-tail (λ (p : Port). p.address < 4096) port ports below))
  where
    by_first : (test : Bool) → (port.address == address) ≡ test → (has_register ports address ≡ true → address < 4096) → address < 4096
    by_first true is later =
        let one = All-head (λ (p : Port). p.address < 4096) port ports below in
        grind (arith, nat_tests, is, one)
    by_first false is later = later (rw is at found)

-- ---- nothing is gathered

nothing_tagged : TagsNoted [] (replicate 4096 Raw)
nothing_tagged = noted_nothing by_address by_address_lawful (λ (entry : Entry). entry.address) (λ (entry : Entry). Scale entry.scale) Raw is_scaled 4096 refl

nothing_noted : (rows : ℕ) → RowsNoted [] (replicate rows None)
nothing_noted rows = noted_nothing by_row by_row_lawful (λ (entry : RowEntry). entry.row) (λ (entry : RowEntry). Some entry.tags) None is_some rows refl

pub nothing_gathered : (rows : ℕ) → Gathered (replicate 4096 Raw) (replicate 4096 Raw) (replicate 4096 Raw) (replicate rows None) false []
nothing_gathered rows = record {
  cells_are = nothing_tagged;
  inputs_are = nothing_tagged;
  outputs_are = nothing_tagged;
  rows_are = nothing_noted rows;
  cell_count = length-replicate 4096 Raw;
  input_count = length-replicate 4096 Raw;
  output_count = length-replicate 4096 Raw;
  ended_is = refl;
}

-- ---- a scale of a cell or a register

tags_more : (its : List Entry) (tags : List Tag) (entry : Entry) → TagsNoted its tags → length tags ≡ 4096 → entry.address < 4096 → has_address its entry.address ≡ false
    → TagsNoted (entry ∷ its) (set tags entry.address (Scale entry.scale))
tags_more its tags entry noted count inside fresh =
    noted_more by_address by_address_lawful (λ (e : Entry). e.address) (λ (e : Entry). Scale e.scale) Raw is_scaled its tags entry noted
    (subst (λ (n : ℕ). entry.address < n) (sym count) inside) fresh refl

sized : (tags : List Tag) (position : ℕ) (tag : Tag) → length tags ≡ 4096 → length (set tags position tag) ≡ 4096
sized tags position tag count = length-set tags position tag ∙ count

pub tagged_is : (g : Gatherer) (before : List ScaleLine) (table : Table) (address : ℕ) → gathered_of g before → address < 4096
    → is_tagged g table address ≡ has_address (entries table before) address
tagged_is g before Cell address so inside =
    noted_at by_address by_address_lawful (λ (e : Entry). e.address) (λ (e : Entry). Scale e.scale) Raw is_scaled (entries Cell before) g.cells address so.cells_are
    (subst (λ (n : ℕ). address < n) (sym so.cell_count) inside)
tagged_is g before In address so inside =
    noted_at by_address by_address_lawful (λ (e : Entry). e.address) (λ (e : Entry). Scale e.scale) Raw is_scaled (entries In before) g.inputs address so.inputs_are
    (subst (λ (n : ℕ). address < n) (sym so.input_count) inside)
tagged_is g before Out address so inside =
    noted_at by_address by_address_lawful (λ (e : Entry). e.address) (λ (e : Entry). Scale e.scale) Raw is_scaled (entries Out before) g.outputs address so.outputs_are
    (subst (λ (n : ℕ). address < n) (sym so.output_count) inside)

-- the tags of one table with a further scale in another, or in it
abbrev pub with_scale : (own table : Table) → List Tag → Entry → List Tag
with_scale own table tags its = if is_table own table then set tags its.address (Scale its.scale) else tags

pub entry_more : (cells inputs outputs : List Tag) (rows : List (Option RowTags)) (ended : Bool) (before : List ScaleLine) (table : Table) (its : Entry)
    → Gathered cells inputs outputs rows ended before → its.address < 4096 → has_address (entries table before) its.address ≡ false
    → Gathered (with_scale Cell table cells its) (with_scale In table inputs its) (with_scale Out table outputs its) rows false (Scaled table its ∷ before)
entry_more cells inputs outputs rows ended before Cell its so inside fresh = record {
  cells_are = tags_more (entries Cell before) cells its so.cells_are so.cell_count inside fresh;
  inputs_are = so.inputs_are;
  outputs_are = so.outputs_are;
  rows_are = so.rows_are;
  cell_count = sized cells its.address (Scale its.scale) so.cell_count;
  input_count = so.input_count;
  output_count = so.output_count;
  ended_is = refl;
}
entry_more cells inputs outputs rows ended before In its so inside fresh = record {
  cells_are = so.cells_are;
  inputs_are = tags_more (entries In before) inputs its so.inputs_are so.input_count inside fresh;
  outputs_are = so.outputs_are;
  rows_are = so.rows_are;
  cell_count = so.cell_count;
  input_count = sized inputs its.address (Scale its.scale) so.input_count;
  output_count = so.output_count;
  ended_is = refl;
}
entry_more cells inputs outputs rows ended before Out its so inside fresh = record {
  cells_are = so.cells_are;
  inputs_are = so.inputs_are;
  outputs_are = tags_more (entries Out before) outputs its so.outputs_are so.output_count inside fresh;
  rows_are = so.rows_are;
  cell_count = so.cell_count;
  input_count = so.input_count;
  output_count = sized outputs its.address (Scale its.scale) so.output_count;
  ended_is = refl;
}

pub entry_gathered : (g : Gatherer) (before : List ScaleLine) (table : Table) (its : Entry) → gathered_of g before → g.ended ≡ false → its.address < 4096
    → has_address (entries table before) its.address ≡ false → gathered_of (with_entry g table its) (Scaled table its ∷ before)
entry_gathered g before Cell its so unended inside fresh = rw unended (entry_more g.cells g.inputs g.outputs g.rows.items g.ended before Cell its so inside fresh)
entry_gathered g before In its so unended inside fresh = rw unended (entry_more g.cells g.inputs g.outputs g.rows.items g.ended before In its so inside fresh)
entry_gathered g before Out its so unended inside fresh = rw unended (entry_more g.cells g.inputs g.outputs g.rows.items g.ended before Out its so inside fresh)

module _ (g : Gatherer) (table : Table) (its : Entry) (unended : g.ended ≡ false) (stands : may_stand g.ports table its.address ≡ true) (inside : its.address < 4096) where
  pub entry_taken : (h : Gatherer) (version : ℕ) → is_tagged g table its.address ≡ false → h ≡ with_entry g table its
      → TakesStatement gathered_of (faults g.ports (length g.rows.items)) version g (Scaled table its) h
  entry_taken h version fresh is = λ before so.
      let ended = sym so.ended_is ∙ unended in
      let none = sym (tagged_is g before table its.address so inside) ∙ fresh in
      (rw (ended, stands, none) refl, rw is (entry_gathered g before table its so unended inside none))

  pub entry_twice : (version : ℕ) → is_tagged g table its.address ≡ true → TellsUntaken gathered_of (faults g.ports (length g.rows.items)) version g (Scaled table its) (Faulty Twice)
  entry_twice version tagged = λ before so.
      let ended = sym so.ended_is ∙ unended in
      let some = sym (tagged_is g before table its.address so inside) ∙ tagged in
      rw (ended, stands, some) refl

-- ---- the tags of a row

named_row : (rows number : ℕ) → (number == 0 || nat_lt rows number) ≡ false → IsAmong rows number
named_row rows number inside = record { first = grind (arith, nat_tests, inside); last = grind (arith, nat_tests, inside) }

not_among : (rows number : ℕ) → (number == 0 || nat_lt rows number) ≡ true → IsAmong rows number → ⊥
not_among rows number out among =
    let first = among.first in
    let last = among.last in
    absurd (grind (arith, nat_tests, out, first, last))

pub row_noted : (before : List ScaleLine) (rows : List (Option RowTags)) (number : ℕ) → RowsNoted (row_entries before) rows → (number == 0 || nat_lt (length rows) number) ≡ false
    → is_some (get_or rows (number - 1) None) ≡ has_row (row_entries before) number
row_noted before rows number noted inside =
    noted_at by_row by_row_lawful (λ (e : RowEntry). e.row) (λ (e : RowEntry). Some e.tags) None is_some (row_entries before) rows number noted (named_row (length rows) number inside)

pub row_not_named : (before : List ScaleLine) (rows : List (Option RowTags)) (number : ℕ) → RowsNoted (row_entries before) rows → (number == 0 || nat_lt (length rows) number) ≡ true
    → has_row (row_entries before) number ≡ false
row_not_named before rows number noted out =
    none_named by_row by_row_lawful (λ (e : RowEntry). e.row) (λ (e : RowEntry). Some e.tags) None is_some (row_entries before) (length rows) number
    (not_among (length rows) number out) noted.among

pub rows_more : (before : List ScaleLine) (rows : List (Option RowTags)) (its : RowEntry) → RowsNoted (row_entries before) rows → (its.row == 0 || nat_lt (length rows) its.row) ≡ false
    → has_row (row_entries before) its.row ≡ false → RowsNoted (its ∷ row_entries before) (set rows (its.row - 1) (Some its.tags))
rows_more before rows its noted inside fresh =
    noted_more by_row by_row_lawful (λ (e : RowEntry). e.row) (λ (e : RowEntry). Some e.tags) None is_some (row_entries before) rows its noted
    (named_row (length rows) its.row inside) fresh refl

-- ---- every line is gathered

unset_raw : (tag : Tag) → is_scaled tag ≡ false → tag ≡ Raw
unset_raw Raw is = refl
unset_raw (Scale scale) is = absurd cc

unset_none : (tags : Option RowTags) → is_some tags ≡ false → tags ≡ None
unset_none None is = refl
unset_none (Some tags) is = absurd cc

tags_of : (table : Table) (lines : List ScaleLine) (tags : List Tag) → TagsNoted (entries table (reverse lines)) tags → length tags ≡ 4096 → AreTags (entries table lines) tags
tags_of table lines tags noted count =
    let turned : entries table (reverse lines) ≡ reverse (entries table lines) = chosen_reversed (entry_in table) lines in
    let whole = whole_of by_address by_address_lawful (λ (e : Entry). e.address) (λ (e : Entry). Scale e.scale) Raw is_scaled (entries table lines) tags unset_raw (rw turned at noted) in
    record {
      count = count;
      stated = whole.stated;
      others = λ address inside none. whole.others address (subst (λ (n : ℕ). address < n) (sym count) inside) none;
    }

row_at : (rows : List (Option RowTags)) (number : ℕ) → IsAmong (length rows) number → row_tags_at (rows_where rows) number ≡ unwrap_or (get_or rows (number - 1) None) any_tags
row_at rows number among =
    let first = among.first in
    let last = among.last in
    get_or-map (λ (tags : Option RowTags). unwrap_or tags any_tags) rows (number - 1) None any_tags (omega (arith, first, last))

rows_of : (lines : List ScaleLine) (rows : List (Option RowTags)) → RowsNoted (row_entries (reverse lines)) rows → AreRowTags (length rows) (row_entries lines) (rows_where rows)
rows_of lines rows noted =
    let turned : row_entries (reverse lines) ≡ reverse (row_entries lines) = chosen_reversed row_entry lines in
    let whole = whole_of by_row by_row_lawful (λ (e : RowEntry). e.row) (λ (e : RowEntry). Some e.tags) None is_some (row_entries lines) rows unset_none (rw turned at noted) in
    let among = among_of by_row by_row_lawful (λ (e : RowEntry). e.row) (λ (e : RowEntry). Some e.tags) None is_some (row_entries lines) rows (rw turned at noted) in
    record {
      count = length-map rows (λ (tags : Option RowTags). unwrap_or tags any_tags);
      stated = λ k d within.
          row_at rows (get_or (row_entries lines) k d).row (among k d within)
          ∙ ap (λ (tags : Option RowTags). unwrap_or tags any_tags) (whole.stated k d within);
      others = λ number first last none.
          let names : IsAmong (length rows) number = record { first = first; last = last } in
          row_at rows number names ∙ ap (λ (tags : Option RowTags). unwrap_or tags any_tags) (whole.others number names none);
    }

-- the tags are those that all lines state
pub all_stated : (cells inputs outputs : List Tag) (rows : List (Option RowTags)) (ended : Bool) (lines : List ScaleLine) → Gathered cells inputs outputs rows ended (reverse lines)
    → AreScales (length rows) lines (record { cells = cells; inputs = inputs; outputs = outputs; rows = rows_where rows })
all_stated cells inputs outputs rows ended lines so = record {
  cells = tags_of Cell lines cells so.cells_are so.cell_count;
  inputs = tags_of In lines inputs so.inputs_are so.input_count;
  outputs = tags_of Out lines outputs so.outputs_are so.output_count;
  of_rows = rows_of lines rows so.rows_are;
}

pub all_gathered : (g : Gatherer) (lines : List ScaleLine) → gathered_of g (reverse lines)
    → AreScales (length g.rows.items) lines (record { cells = g.cells; inputs = g.inputs; outputs = g.outputs; rows = rows_where g.rows.items })
all_gathered g lines so = all_stated g.cells g.inputs g.outputs g.rows.items g.ended lines so

-- ---- a text has one set of tags

one_table : (its : List Entry) (one other : List Tag) → AreTags its one → AreTags its other → one ≡ other
one_table its one other is also =
    one_whole by_address by_address_lawful (λ (e : Entry). e.address) (λ (e : Entry). Scale e.scale) Raw is_scaled one other its (is.count ∙ sym also.count)
    (record { stated = is.stated; others = λ number names none. is.others number (subst (λ (n : ℕ). number < n) is.count names) none })
    (record { stated = also.stated; others = λ number names none. also.others number (subst (λ (n : ℕ). number < n) also.count names) none })

some_tags : RowTags → Bool
some_tags tags = true

one_of_rows : (rows : ℕ) (its : List RowEntry) (one other : List RowTags) → AreRowTags rows its one → AreRowTags rows its other → one ≡ other
one_of_rows rows its one other is also =
    one_whole by_row by_row_lawful (λ (e : RowEntry). e.row) (λ (e : RowEntry). e.tags) any_tags some_tags one other its (is.count ∙ sym also.count)
    (record { stated = is.stated; others = λ number names none. is.others number names.first (subst (λ (n : ℕ). number ≤ n) is.count names.last) none })
    (record { stated = also.stated; others = λ number names none. also.others number names.first (subst (λ (n : ℕ). number ≤ n) also.count names.last) none })

scaling : (cells inputs outputs : List Tag) → List RowTags → Scaling
scaling cells inputs outputs rows = record { cells = cells; inputs = inputs; outputs = outputs; rows = rows }

pub one_scales : (rows : ℕ) (lines : List ScaleLine) (one other : Scaling) → AreScales rows lines one → AreScales rows lines other → one ≡ other
unfolding scaling
one_scales rows lines one other is also =
    let cells : one.cells ≡ other.cells = one_table (entries Cell lines) one.cells other.cells is.cells also.cells in
    let inputs : one.inputs ≡ other.inputs = one_table (entries In lines) one.inputs other.inputs is.inputs also.inputs in
    let outputs : one.outputs ≡ other.outputs = one_table (entries Out lines) one.outputs other.outputs is.outputs also.outputs in
    let rows_are : one.rows ≡ other.rows = one_of_rows rows (row_entries lines) one.rows other.rows is.of_rows also.of_rows in
    ap (λ (l : List Tag). scaling l one.inputs one.outputs one.rows) cells
    ∙ ap (λ (l : List Tag). scaling other.cells l one.outputs one.rows) inputs
    ∙ ap (λ (l : List Tag). scaling other.cells other.inputs l one.rows) outputs
    ∙ ap (λ (l : List RowTags). scaling other.cells other.inputs other.outputs l) rows_are
