-- What the statements of a certificate say is the certificate.
use Rattle.std.proofs.Common.{◌≡◌, ℕ, zero, suc, ◌+◌, ◌<◌, ◌≤◌, Bool, true, false, ◌==◌, ◌||◌, List, [], ◌∷◌, ◌++◌, map, get_or, Option, Some, None, refl, sym, ap, ◌∙◌, inl, inr, append_assoc, append-nil, arith}
use Rattle.std.specs.Prelude.{if◌then◌else◌}
use Rattle.std.specs.List.{list_any, filter_map, flat_map, range_with_len, cons_option}
use Rattle.std.proofs.lemmas.Bool.{cases_Bool, cases_lt, true≢false, eq-eqb, ne_eqb}
use Rattle.std.proofs.lemmas.List.Elements.{filter_map-append}
use Rattle.ags_domain.specs.Domain.{IsFull}
use Rattle.ags_domain.specs.Value.{value_meaning}
use Rattle.ags_domain.specs.declared.values.Value.{Value}
use Rattle.ags_domain.specs.declared.values.Value.TheVariants.{Range, Words}
use Rattle.ags_row.specs.Cell.{value_among}
use Rattle.ags_row.specs.Limit.{cell_limit, input_limit, output_limit, is_named}
use Rattle.ags_row.specs.declared.ats.At.{At}
use Rattle.ags_row.specs.declared.links.Link.{Link}
use Rattle.ags_row.specs.declared.rows.Row.{Row}
use Rattle.ags_certtype.specs.Cert.{Stated, IsCert}
use Rattle.ags_frame.specs.Reading.{Stated as StatedBy, Ended, statement_of}
use Rattle.ags_certtext.specs.Statement.{entry_in, may_place, entries, row_entries, row_links, value_at}
use Rattle.ags_certtext.specs.Text.{start_of, IsLimit, IsLinkOf, rows_of, AreRowsOf, IsWhatIsStated}
use Rattle.ags_certtext.specs.declared.statements.Entry.{Entry}
use Rattle.ags_certtext.specs.declared.statements.Statement.{Statement}
use Rattle.ags_certtext.specs.declared.statements.Statement.TheVariants.{Start, Entry as EntryOf, May, Row as RowOf, End}
use Rattle.ags_certtext.specs.declared.kinds.Table.{Table}
use Rattle.ags_certtext.specs.declared.kinds.Table.TheVariants.{Cell, Init, In, Out}
use Rattle.ags_certsend.specs.Section.{address_count, stated_at}
use Rattle.ags_certsend.specs.declared.sections.Section.{Section}
use Rattle.ags_certsend.specs.declared.sections.Section.TheVariants.{Cells, Starts, Inputs, Outputs, Places}
use Rattle.ags_certsend.specs.CertText.{is_full, entry_of, limited, stating, start_entry, cell_statement, init_statement, input_statement, output_statement, place_statement, ascending, at_statement, link_statements, row_statements, statements_of}
use Rattle.ags_certsend.proofs.ValueLemmas.{full_holds}
use Rattle.ags_certsend.proofs.PassLemmas.{Chooses, apart, kind_number}
use Rattle.ags_certtext.specs.Kind.{kinds_before, table_kind}
use Rattle.ags_certsend.proofs.KindLemmas.{chooses_cell, chooses_init, chooses_in, chooses_out, chooses_may, limit_cases, start_cases, place_cases}

-- ---- what a choice takes of other kinds: nothing

-- a choice is of one kind
OfKind : {Y : Type 0} → (Statement → Option Y) → ℕ → Type 0
OfKind {Y} chosen kind = (statement : Statement) → ((kind_number statement ≡ kind) → ⊥) → chosen statement ≡ None

-- a choice that has its addresses is of its kind
of_kind : {Y : Type 0} (chosen : Statement → Option Y) (key : Y → ℕ) (kind : ℕ) → Chooses chosen key kind → OfKind chosen kind
unfolding Chooses OfKind
of_kind {Y} chosen key kind chooses = λ statement other. by_found statement other (chosen statement) refl
  where
    by_found : (statement : Statement) → ((kind_number statement ≡ kind) → ⊥) → (found : Option Y) → chosen statement ≡ found → found ≡ None
    by_found statement other None is = refl
    by_found statement other (Some y) is = absurd (other (chooses statement y is).0)

-- no statement is of the kind
Avoids : ℕ → List Statement → Type 0
Avoids kind [] = Unit {0}
Avoids kind (statement ∷ statements) = ((kind_number statement ≡ kind) → ⊥) × Avoids kind statements

avoids-append : (kind : ℕ) (xs ys : List Statement) → Avoids kind xs → Avoids kind ys → Avoids kind (xs ++ ys)
unfolding Avoids
avoids-append kind [] ys first second = second
avoids-append kind (x ∷ xs) ys first second = (first.0, avoids-append kind xs ys first.1 second)

avoided : {Y : Type 0} (chosen : Statement → Option Y) (kind : ℕ) → OfKind chosen kind → (statements : List Statement) → Avoids kind statements → filter_map chosen statements ≡ []
unfolding Avoids OfKind
avoided chosen kind of [] avoids = refl
avoided chosen kind of (statement ∷ statements) avoids = rw (of statement avoids.0, avoided chosen kind of statements avoids.1) refl

-- the statements of a kind by address avoid every other kind
Makes : (ℕ → Option Statement) → ℕ → Type 0
Makes stated kind = (address : ℕ) (statement : Statement) → stated address ≡ Some statement → kind_number statement ≡ kind

found_avoids : (kind own : ℕ) → ((own ≡ kind) → ⊥) → (found : Option Statement) → ((statement : Statement) → found ≡ Some statement → kind_number statement ≡ own)
    → (rest : List Statement) → Avoids kind rest → Avoids kind (cons_option found rest)
unfolding Avoids
found_avoids kind own other None makes rest avoids = avoids
found_avoids kind own other (Some statement) makes rest avoids = (λ same. other (sym (makes statement refl) ∙ same), avoids)

range_avoids : (kind own : ℕ) (stated : ℕ → Option Statement) → Makes stated own → ((own ≡ kind) → ⊥) → (from count : ℕ) → Avoids kind (filter_map stated (range_with_len from count))
unfolding Avoids Makes
range_avoids kind own stated makes other from zero = tt
range_avoids kind own stated makes other from (suc count) =
    found_avoids kind own other (stated from) (makes from) (filter_map stated (range_with_len (from + 1) count)) (range_avoids kind own stated makes other (from + 1) count)

ascending_avoids : (kind own : ℕ) (stated : ℕ → Option Statement) → Makes stated own → ((own ≡ kind) → ⊥) → (count : ℕ) → Avoids kind (ascending stated count)
unfolding ascending
ascending_avoids kind own stated makes other count = range_avoids kind own stated makes other 0 count

cells_avoid : (kind : ℕ) (cells : List (At Value)) → ((7 ≡ kind) → ⊥) → Avoids kind (map at_statement cells)
unfolding Avoids
cells_avoid kind [] other = tt
cells_avoid kind (cell ∷ cells) other = (other, cells_avoid kind cells other)

link_avoids : (kind : ℕ) (link : Option Link) → ((7 ≡ kind) → ⊥) → Avoids kind (link_statements link)
unfolding Avoids
link_avoids kind None other = tt
link_avoids kind (Some link) other = (other, tt)

rows_avoid : (kind : ℕ) (rows : List (Row Value)) → ((7 ≡ kind) → ⊥) → Avoids kind (flat_map row_statements rows)
unfolding Avoids row_statements
rows_avoid kind [] other = tt
rows_avoid kind (row ∷ rows) other = avoids-append kind (row_statements row) (flat_map row_statements rows)
    (other, avoids-append kind (map at_statement row.at) (link_statements row.link) (cells_avoid kind row.at other) (link_avoids kind row.link other)) (rows_avoid kind rows other)

-- ---- the value that is stated of an address

-- what is stated at each address is an entry with its value, or nothing
IsTold : (Statement → Option Entry) → ℕ → Option Statement → Option Value → Type 0
IsTold chosen address None None = Unit {0}
IsTold chosen address None (Some value) = ⊥
IsTold chosen address (Some statement) None = ⊥
IsTold chosen address (Some statement) (Some value) = chosen statement ≡ Some (entry_of address value)

Tells : (Statement → Option Entry) → (ℕ → Option Statement) → (ℕ → Option Value) → Type 0
Tells chosen stated values = (address : ℕ) → IsTold chosen address (stated address) (values address)

-- an address that is not this one
other_found : (chosen : Statement → Option Entry) (address x : ℕ) → (address == x) ≡ false → (found : Option Statement) (value : Option Value) (rest : List Statement) → IsTold chosen address found value
    → value_at (filter_map chosen (cons_option found rest)) x ≡ value_at (filter_map chosen rest) x
unfolding IsTold
other_found chosen address x other None None rest told = refl
other_found chosen address x other None (Some value) rest told = absurd told
other_found chosen address x other (Some statement) None rest told = absurd told
other_found chosen address x other (Some statement) (Some value) rest told = rw (told, other) refl

-- and this one, of which nothing is stated later
own_found : (chosen : Statement → Option Entry) (address : ℕ) (found : Option Statement) (value : Option Value) (rest : List Statement) → IsTold chosen address found value
    → value_at (filter_map chosen rest) address ≡ None → value_at (filter_map chosen (cons_option found rest)) address ≡ value
unfolding IsTold
own_found chosen address None None rest told none = none
own_found chosen address None (Some value) rest told none = absurd told
own_found chosen address (Some statement) None rest told none = absurd told
own_found chosen address (Some statement) (Some value) rest told none = rw (told, eq-eqb address address refl) refl

value_below : (chosen : Statement → Option Entry) (stated : ℕ → Option Statement) (values : ℕ → Option Value) → Tells chosen stated values → (x from count : ℕ) → x < from
    → value_at (filter_map chosen (filter_map stated (range_with_len from count))) x ≡ None
unfolding Tells
value_below chosen stated values tells x from zero below = refl
value_below chosen stated values tells x from (suc count) below =
    other_found chosen from x (ne_eqb from x (λ same. omega (arith, same, below))) (stated from) (values from) (filter_map stated (range_with_len (from + 1) count)) (tells from)
    ∙ value_below chosen stated values tells x (from + 1) count (omega (arith, below))

value_there : (chosen : Statement → Option Entry) (stated : ℕ → Option Statement) (values : ℕ → Option Value) → Tells chosen stated values → (x from count : ℕ) → from ≤ x → x < from + count
    → value_at (filter_map chosen (filter_map stated (range_with_len from count))) x ≡ values x
unfolding Tells
value_there chosen stated values tells x from zero low high = absurd (omega (arith, low, high))
value_there chosen stated values tells x from (suc count) low high =
    elim (cases_lt from x) [
      | inl later ↦
          other_found chosen from x (apart from x later) (stated from) (values from) (filter_map stated (range_with_len (from + 1) count)) (tells from)
          ∙ value_there chosen stated values tells x (from + 1) count (omega (arith, later)) (omega (arith, high))
      | inr here ↦
          let same : from ≡ x = omega (arith, low, here) in
          rw (← same) (own_found chosen from (stated from) (values from) (filter_map stated (range_with_len (from + 1) count)) (tells from)
          (value_below chosen stated values tells from (from + 1) count (omega arith)))
    ]

value_ascending : (chosen : Statement → Option Entry) (stated : ℕ → Option Statement) (values : ℕ → Option Value) → Tells chosen stated values → (count x : ℕ) → x < count
    → value_at (filter_map chosen (ascending stated count)) x ≡ values x
unfolding ascending
value_ascending chosen stated values tells count x below = value_there chosen stated values tells x 0 count (omega arith) (omega (arith, below))

-- a limit, of each kind that takes an entry
pub limited_value : Value → Option Value
limited_value limit = if is_full limit then None else Some limit

told_limit : (table : Table) (chosen : Statement → Option Entry) → ((entry : Entry) → chosen (EntryOf table entry) ≡ Some entry) → (address : ℕ) (limit : Value) (full : Bool)
    → IsTold chosen address (stating table (if full then None else Some (entry_of address limit))) (if full then None else Some limit)
unfolding IsTold
told_limit table chosen takes address limit true = tt
told_limit table chosen takes address limit false = takes (entry_of address limit)

told_start : (address : ℕ) (value : Option Value) → IsTold (entry_in Init) address (stating Init (start_entry address value)) value
unfolding IsTold
told_start address None = tt
told_start address (Some value) = refl

full_of : (value : Value) → is_full value ≡ true → IsFull value_meaning value
full_of (Range range) full = full_holds range full
full_of (Words set) full = absurd (true≢false (sym full))

limit_by : (limit : Value) (full : Bool) → is_full limit ≡ full → IsLimit (if full then None else Some limit) limit
limit_by limit true is = full_of limit is
limit_by limit false is = refl

limit_is : (limit : Value) → IsLimit (limited_value limit) limit
unfolding limited_value
limit_is limit = limit_by limit (is_full limit) refl

-- ---- named places

Names : (ℕ → Option Statement) → (ℕ → Bool) → Type 0
Names stated named = (location : ℕ) → stated location ≡ (if named location then Some (May location) else None)

place_found : (named : Bool) (location x : ℕ) (found : Option Statement) (rest : List Statement) → found ≡ (if named then Some (May location) else None)
    → list_any (λ (place : ℕ). place == x) (filter_map may_place (cons_option found rest)) ≡ (if named then (location == x || list_any (λ (place : ℕ). place == x) (filter_map may_place rest))
    else list_any (λ (place : ℕ). place == x) (filter_map may_place rest))
place_found true location x found rest is = rw is refl
place_found false location x found rest is = rw is refl

place_below : (stated : ℕ → Option Statement) (named : ℕ → Bool) → Names stated named → (x from count : ℕ) → x < from
    → list_any (λ (place : ℕ). place == x) (filter_map may_place (filter_map stated (range_with_len from count))) ≡ false
unfolding Names
place_below stated named names x from zero below = refl
place_below stated named names x from (suc count) below =
    let rest = place_below stated named names x (from + 1) count (omega (arith, below)) in
    let first = place_found (named from) from x (stated from) (filter_map stated (range_with_len (from + 1) count)) (names from) in
    elim (cases_Bool (named from)) [
      | inl is ↦ first ∙ rw (is, ne_eqb from x (λ same. omega (arith, same, below)), rest) refl
      | inr is ↦ first ∙ rw (is, rest) refl
    ]

place_there : (stated : ℕ → Option Statement) (named : ℕ → Bool) → Names stated named → (x from count : ℕ) → from ≤ x → x < from + count
    → list_any (λ (place : ℕ). place == x) (filter_map may_place (filter_map stated (range_with_len from count))) ≡ named x
unfolding Names
place_there stated named names x from zero low high = absurd (omega (arith, low, high))
place_there stated named names x from (suc count) low high =
    let first = place_found (named from) from x (stated from) (filter_map stated (range_with_len (from + 1) count)) (names from) in
    elim (cases_lt from x) [
      | inl later ↦
          let rest = place_there stated named names x (from + 1) count (omega (arith, later)) (omega (arith, high)) in
          elim (cases_Bool (named from)) [
            | inl is ↦ first ∙ rw (is, apart from x later, rest) refl
            | inr is ↦ first ∙ rw (is, rest) refl
          ]
      | inr here ↦
          let same : from ≡ x = omega (arith, low, here) in
          let rest = place_below stated named names from (from + 1) count (omega arith) in
          elim (cases_Bool (named from)) [
            | inl is ↦ first ∙ rw (← same, is, eq-eqb from from refl) refl
            | inr is ↦ first ∙ rw (← same, is, rest) refl
          ]
    ]

place_ascending : (stated : ℕ → Option Statement) (named : ℕ → Bool) → Names stated named → (count x : ℕ) → x < count
    → list_any (λ (place : ℕ). place == x) (filter_map may_place (ascending stated count)) ≡ named x
unfolding ascending
place_ascending stated named names count x below = place_there stated named names x 0 count (omega arith) (omega (arith, below))

-- ---- rows

-- a statement that is no row leaves the rows
no_row : (statement : Statement) (rest : List Statement) → ((kind_number statement ≡ 7) → ⊥) → rows_of (statement ∷ rest) ≡ rows_of rest
no_row (RowOf row) rest other = absurd (other refl)
no_row _ rest other = refl

rows_skip : (front rest : List Statement) → Avoids 7 front → rows_of (front ++ rest) ≡ rows_of rest
unfolding Avoids
rows_skip [] rest avoids = refl
rows_skip (statement ∷ front) rest avoids = no_row statement (front ++ rest) avoids.0 ∙ rows_skip front rest avoids.1

entries_of : List (At Value) → List Entry
entries_of cells = map (λ (cell : At Value). entry_of cell.address cell.value) cells

cells_lead : (cells : List (At Value)) (rest : List Statement) → row_entries rest ≡ [] → row_entries (map at_statement cells ++ rest) ≡ entries_of cells
unfolding entries_of
cells_lead [] rest none = none
cells_lead (cell ∷ cells) rest none = ap (λ (others : List Entry). entry_of cell.address cell.value ∷ others) (cells_lead cells rest none)

cells_skip : (cells : List (At Value)) (rest : List Statement) → rows_of (map at_statement cells ++ rest) ≡ rows_of rest
cells_skip [] rest = refl
cells_skip (cell ∷ cells) rest = cells_skip cells rest

cells_links : (cells : List (At Value)) (rest : List Statement) → row_links (map at_statement cells ++ rest) ≡ row_links rest
cells_links [] rest = refl
cells_links (cell ∷ cells) rest = cells_links cells rest

link_lead : (link : Option Link) (rest : List Statement) → row_entries rest ≡ [] → row_entries (link_statements link ++ rest) ≡ []
link_lead None rest none = none
link_lead (Some link) rest none = none

link_skip : (link : Option Link) (rest : List Statement) → rows_of (link_statements link ++ rest) ≡ rows_of rest
link_skip None rest = refl
link_skip (Some link) rest = refl

same_link : (link : Option Link) (rest : List Statement) → row_links rest ≡ [] → IsLinkOf (row_links (link_statements link ++ rest)) link
same_link None rest none = rw none refl
same_link (Some link) rest none = rw none refl

same_cells : (cells : List (At Value)) (address : ℕ) → value_among cells address ≡ value_at (entries_of cells) address
unfolding entries_of
same_cells [] address = refl
same_cells (cell ∷ cells) address = rw (same_cells cells address) refl

record AreStatedRows (rows : List (Row Value)) (statements : List Statement) : Type 0 where
  are : AreRowsOf (rows_of statements) rows
  lead : row_entries statements ≡ []
  links : row_links statements ≡ []

rows_stated : (rows : List (Row Value)) → AreStatedRows rows (flat_map row_statements rows ++ End ∷ [])
unfolding row_statements
rows_stated [] = record { are = tt; lead = refl; links = refl }
rows_stated (row ∷ rows) =
    let behind : List Statement = flat_map row_statements rows ++ End ∷ [] in
    let rest = rows_stated rows in
    let cells = map at_statement row.at in
    let link = link_statements row.link in
    let cut : ((cells ++ link) ++ flat_map row_statements rows) ++ End ∷ [] ≡ cells ++ (link ++ behind) =
    append_assoc (cells ++ link) (flat_map row_statements rows) (End ∷ []) ∙ append_assoc cells link behind in
    record {
      are = rw (
        cut,
        cells_lead row.at (link ++ behind) (link_lead row.link behind rest.lead),
        cells_links row.at (link ++ behind),
        cells_skip row.at (link ++ behind),
        link_skip row.link behind,
      ) (
        record {
          location = refl;
          a = refl;
          q = refl;
          x = refl;
          v = refl;
          cells = same_cells row.at;
          link = same_link row.link behind rest.links;
        },
        rest.are,
      );
      lead = refl;
      links = refl;
    }

-- ---- the kinds that stand by address

-- the number of a section's kind
abbrev kind_of : Section → ℕ
kind_of Cells = 2
kind_of Starts = 3
kind_of Inputs = 4
kind_of Outputs = 5
kind_of Places = 6

limit_makes : (table : Table) (address : ℕ) (limit : Value) (statement : Statement) → stating table (limited address limit) ≡ Some statement
    → kind_number statement ≡ kinds_before (table_kind table) + 1
limit_makes table address limit statement is = rw (← (limit_cases table address limit (is_full limit) statement is).1) refl

makes : (cert : Stated) (section : Section) → Makes (stated_at section cert) (kind_of section)
unfolding Makes cell_statement init_statement input_statement output_statement place_statement
makes cert Cells = λ address statement is. limit_makes Cell address (cell_limit cert.limits address) statement is
makes cert Starts = λ address statement is. rw (← (start_cases address (get_or cert.init address None) statement is).2) refl
makes cert Inputs = λ address statement is. limit_makes In address (input_limit cert.limits address) statement is
makes cert Outputs = λ address statement is. limit_makes Out address (output_limit cert.limits address) statement is
makes cert Places = λ location statement is. rw (← place_cases location (is_named cert.limits location) statement is) refl

-- ---- the parts of a certificate's statements

module _ (cert : Stated) where
  part : Section → List Statement
  part section = ascending (stated_at section cert) (address_count section)

  rows_part : List Statement
  rows_part = flat_map row_statements cert.rows ++ End ∷ []

  -- the parts of some kinds, and then the rows
  with_rows : List Section → List Statement
  with_rows [] = rows_part
  with_rows (section ∷ sections) = part section ++ with_rows sections

  sections : List Section
  sections = Cells ∷ Starts ∷ Inputs ∷ Outputs ∷ Places ∷ []

  parts : statements_of cert ≡ Start cert.start ∷ with_rows sections
  unfolding statements_of with_rows sections part rows_part
  parts = refl

  part_avoids : (section : Section) (kind : ℕ) → ((kind_of section ≡ kind) → ⊥) → Avoids kind (part section)
  unfolding part
  part_avoids section kind other = ascending_avoids kind (kind_of section) (stated_at section cert) (makes cert section) other (address_count section)

  rows_part_avoids : (kind : ℕ) → kind < 7 → Avoids kind rows_part
  unfolding rows_part Avoids
  rows_part_avoids kind low = avoids-append kind (flat_map row_statements cert.rows) (End ∷ []) (rows_avoid kind cert.rows (λ is. omega (arith, low, is))) ((λ is. omega (arith, low, is)), tt)

  -- what a choice takes of the parts of one kind
  abbrev taken : {Y : Type 0} → (Statement → Option Y) → ℕ → List Section → List Y
  taken chosen kind some = flat_map (λ (section : Section). if kind_of section == kind then filter_map chosen (part section) else []) some

  -- a choice of that kind takes no more of all these parts
  parts_chosen : {Y : Type 0} (chosen : Statement → Option Y) (kind : ℕ) → OfKind chosen kind → kind < 7 → (some : List Section)
      → filter_map chosen (with_rows some) ≡ taken chosen kind some
  unfolding with_rows
  parts_chosen chosen kind of low [] = avoided chosen kind of rows_part (rows_part_avoids kind low)
  parts_chosen chosen kind of low (section ∷ others) =
      filter_map-append chosen (part section) (with_rows others) ∙ by_test (parts_chosen chosen kind of low others) (kind_of section == kind) refl
    where
      by_test : filter_map chosen (with_rows others) ≡ taken chosen kind others → (b : Bool) → (kind_of section == kind) ≡ b
          → filter_map chosen (part section) ++ filter_map chosen (with_rows others) ≡ taken chosen kind (section ∷ others)
      by_test rest true is = rw (is, rest) refl
      by_test rest false is = rw (is, avoided chosen kind of (part section) (part_avoids section kind (λ same. absurd (true≢false (sym (eq-eqb (kind_of section) kind same) ∙ is))))) rest

  -- and of all statements what it takes of the part of its kind
  kind_chosen : {Y : Type 0} (section : Section) (chosen : Statement → Option Y) (key : Y → ℕ) → Chooses chosen key (kind_of section)
      → filter_map chosen (statements_of cert) ≡ filter_map chosen (part section)
  unfolding sections OfKind
  kind_chosen Cells chosen key chooses =
      let of = of_kind chosen key 2 chooses in
      rw (parts, of (Start cert.start) (λ is. absurd cc)) (parts_chosen chosen 2 of (omega arith) sections ∙ append-nil (filter_map chosen (part Cells)))
  kind_chosen section chosen key chooses =
      let of = of_kind chosen key (kind_of section) chooses in
      rw (parts, of (Start cert.start) (λ is. absurd cc)) (parts_chosen chosen (kind_of section) of (omega arith) sections ∙ append-nil (filter_map chosen (part section)))

  no_rows_of : (section : Section) → (kind_of section ≡ 7) → ⊥
  no_rows_of Cells is = absurd cc
  no_rows_of _ is = absurd cc

  rows_behind : (some : List Section) → rows_of (with_rows some) ≡ rows_of rows_part
  unfolding with_rows
  rows_behind [] = refl
  rows_behind (section ∷ others) = rows_skip (part section) (with_rows others) (part_avoids section 7 (no_rows_of section)) ∙ rows_behind others

  starts : start_of (statements_of cert) ≡ cert.start
  starts = rw parts refl

  cell_values : (address : ℕ) → address < 2048 → value_at (entries Cell (statements_of cert)) address ≡ limited_value (cell_limit cert.limits address)
  unfolding part Chooses Tells cell_statement limited_value
  cell_values address below = ap (λ (found : List Entry). value_at found address) (kind_chosen Cells (entry_in Cell) (λ (entry : Entry). entry.address) chooses_cell)
      ∙ value_ascending (entry_in Cell) (cell_statement cert) (λ x. limited_value (cell_limit cert.limits x))
      (λ x. told_limit Cell (entry_in Cell) (λ entry. refl) x (cell_limit cert.limits x) (is_full (cell_limit cert.limits x))) 2048 address below

  init_values : (address : ℕ) → address < 2048 → value_at (entries Init (statements_of cert)) address ≡ get_or cert.init address None
  unfolding part Chooses Tells init_statement
  init_values address below = ap (λ (found : List Entry). value_at found address) (kind_chosen Starts (entry_in Init) (λ (entry : Entry). entry.address) chooses_init)
      ∙ value_ascending (entry_in Init) (init_statement cert) (λ x. get_or cert.init x None) (λ x. told_start x (get_or cert.init x None)) 2048 address below

  input_values : (address : ℕ) → address < 4096 → value_at (entries In (statements_of cert)) address ≡ limited_value (input_limit cert.limits address)
  unfolding part Chooses Tells input_statement limited_value
  input_values address below = ap (λ (found : List Entry). value_at found address) (kind_chosen Inputs (entry_in In) (λ (entry : Entry). entry.address) chooses_in)
      ∙ value_ascending (entry_in In) (input_statement cert) (λ x. limited_value (input_limit cert.limits x))
      (λ x. told_limit In (entry_in In) (λ entry. refl) x (input_limit cert.limits x) (is_full (input_limit cert.limits x))) 4096 address below

  output_values : (address : ℕ) → address < 4096 → value_at (entries Out (statements_of cert)) address ≡ limited_value (output_limit cert.limits address)
  unfolding part Chooses Tells output_statement limited_value
  output_values address below = ap (λ (found : List Entry). value_at found address) (kind_chosen Outputs (entry_in Out) (λ (entry : Entry). entry.address) chooses_out)
      ∙ value_ascending (entry_in Out) (output_statement cert) (λ x. limited_value (output_limit cert.limits x))
      (λ x. told_limit Out (entry_in Out) (λ entry. refl) x (output_limit cert.limits x) (is_full (output_limit cert.limits x))) 4096 address below

  place_names : (location : ℕ) → location < 4096 → list_any (λ (place : ℕ). place == location) (filter_map may_place (statements_of cert)) ≡ is_named cert.limits location
  unfolding part Chooses Names place_statement
  place_names location below = ap (λ (found : List ℕ). list_any (λ (place : ℕ). place == location) found) (kind_chosen Places may_place (λ (place : ℕ). place) chooses_may)
      ∙ place_ascending (place_statement cert) (is_named cert.limits) (λ x. refl) 4096 location below

  stated_rows : AreRowsOf (rows_of (statements_of cert)) cert.rows
  unfolding rows_part
  stated_rows = rw (parts, rows_behind sections) (rows_stated cert.rows).are

  pub certificate_stated : IsCert cert → IsWhatIsStated (statements_of cert) cert
  certificate_stated good = record {
    is_cert = good;
    start = sym starts;
    limits = record {
      tables = good.limits.tables;
      cells = λ address below. rw (cell_values address below) (limit_is (cell_limit cert.limits address));
      inputs = λ address below. rw (input_values address below) (limit_is (input_limit cert.limits address));
      outputs = λ address below. rw (output_values address below) (limit_is (output_limit cert.limits address));
      places = λ location below. sym (place_names location below);
      every = good.limits.every;
    };
    init = λ address below. sym (init_values address below);
    rows = stated_rows;
  }

-- the statements of the readings
pub statements_read : (statements : List Statement) → filter_map statement_of (map StatedBy statements ++ Ended ∷ []) ≡ statements
statements_read [] = refl
statements_read (statement ∷ statements) = ap (λ (rest : List Statement). statement ∷ rest) (statements_read statements)
