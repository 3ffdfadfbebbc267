-- What it says of what is kept that the next statement has no fault.
use Rattle.std.proofs.Common.{◌≡◌, ℕ, ◌+◌, ◌<◌, ◌≤◌, Bool, true, false, not, ◌&&◌, ◌==◌, refl, ◌∙◌, List, [], ◌∷◌, length, get_or, Option, Some, None, arith}
use Rattle.std.specs.Prelude.{nat_le, is_some}
use Rattle.std.proofs.lemmas.Bool.Decides.{nat_tests}
use Rattle.ags_domain.specs.declared.values.Value.{Value}
use Rattle.ags_ports.specs.Port.{Registers}
use Rattle.ags_row.specs.declared.links.Link.{Link}
use Rattle.ags_certtext.specs.declared.cert_error.CertKind.{CertKind}
use Rattle.ags_certtext.specs.declared.cert_error.CertKind.TheVariants.{BadLine, Twice, EmptyRange, OutsideGlobal, NoZero, TooManyAt}
use Rattle.ags_certtext.specs.declared.kinds.Kind.{Kind}
use Rattle.ags_certtext.specs.declared.kinds.Kind.TheVariants as kind
use Rattle.ags_certtext.specs.declared.statements.Entry.{Entry}
use Rattle.ags_certtext.specs.declared.statements.RowLine.{RowLine}
use Rattle.ags_certtext.specs.declared.statements.Statement.{Statement}
use Rattle.ags_certtext.specs.declared.statements.Statement.TheVariants.{Start, Entry as EntryOf, May, Row, Linked, End}
use Rattle.ags_certtext.specs.declared.kinds.Table.{Table}
use Rattle.ags_certtext.specs.declared.kinds.Table.TheVariants.{Cell, In, Out, At}
use Rattle.ags_certtext.specs.Fault.{entry_fault, fault_after, fault_if, fault_in, is_empty, is_fixed, is_full_with, is_of_version, lacks_word, leaves_limit, may_stand, statement_fault}
use Rattle.ags_certtext.specs.Kind.{follows, is_kind, is_last, is_second_start, kinds_before, last_kind, stands_in_order}
use Rattle.ags_certtext.specs.Statement.{IsStatement, entries, entries_before, has_address, row_links, value_at}
use Rattle.ags_certtext.specs.Text.{IsLinkOf}
use Rattle.ags_certread.specs.Before.{Gathered}
use Rattle.ags_certread.specs.Sound.{kinds_come}
use Rattle.ags_certread.specs.Gathering.{Gathering, is_stated_in, row_count, stated, IsPlaced}
use Rattle.ags_certread.proofs.CheckLemmas.{neither}
use Rattle.ags_certread.proofs.EntryLemmas.{stated_before}

pub clear : (found : Bool) (kind : CertKind) (later : Option CertKind) → fault_if found kind later ≡ None → (found ≡ false) × (later ≡ None)
clear true kind later none = let clash : ◌≡◌ {A = Option CertKind} (Some kind) None = none in absurd cc
clear false kind later none = (refl, none)

not_empty : (value : Option Value) → is_empty value ≡ false → is_some value ≡ true
not_empty None is = let clash : true ≡ false = is in absurd cc
not_empty (Some value) is = refl

not_false : (b : Bool) → not b ≡ false → b ≡ true
not_false true is = refl
not_false false is = let clash : true ≡ false = is in absurd cc

-- ---- tests of numbers

erasable : (address : ℕ) → not (nat_le 2048 address) ≡ true → address < 2048
erasable address is = grind (arith, nat_tests)

pub room : (count most : ℕ) → nat_le most count ≡ false → count < most
room count most is = grind (arith, nat_tests)

some_left : (count : ℕ) → (count == 0) ≡ false → 1 ≤ count
some_left count is = grind (arith, nat_tests)

both : (a b : Bool) → (a && b) ≡ true → (a ≡ true) × (b ≡ true)
both true b is = (refl, is)
both false b is = let clash : false ≡ true = is in absurd cc

-- ---- the last kind

-- the last kind is no later than that of a statement that stands in order
pub no_higher : (last : Option Kind) (its : Kind) → follows last its ≡ true → kinds_come last ≤ kinds_before its + 1
no_higher None its is = omega arith
no_higher (Some last) its is =
    let first = (both (nat_le (kinds_before last) (kinds_before its)) (not (is_kind kind.End last)) is).0 in
    no_later (kinds_before last) (kinds_before its) first
  where
    no_later : (one other : ℕ) → nat_le one other ≡ true → one + 1 ≤ other + 1
    no_later one other is = grind (arith, nat_tests)

-- a kind that a test tells is the one
is_row : (its : Kind) → is_kind kind.Row its ≡ true → its ≡ kind.Row
is_row kind.Row is = refl
is_row _ is = let clash : false ≡ true = is in absurd cc

is_end : (its : Kind) → is_kind kind.End its ≡ true → its ≡ kind.End
is_end kind.End is = refl
is_end _ is = let clash : false ≡ true = is in absurd cc

pub last_row : (last : Option Kind) → is_last kind.Row last ≡ true → last ≡ Some kind.Row
last_row None is = let clash : false ≡ true = is in absurd cc
last_row (Some its) is = rw (is_row its is) refl

pub last_end : (last : Option Kind) → is_last kind.End last ≡ true → last ≡ Some kind.End
last_end None is = let clash : false ≡ true = is in absurd cc
last_end (Some its) is = rw (is_end its is) refl

pub none_last : (last : Option Kind) → not (is_some last) ≡ true → last ≡ None
none_last None is = refl
none_last (Some its) is = let clash : false ≡ true = is in absurd cc

-- ---- what an entry, a row or the end without a fault says of what is kept

-- the address is one of its table, and nothing is stated there; a value is stated, within the cell's limit where that is asked; and
-- there is room
pub record IsClearEntry (g : Gathering) (table : Table) (entry : Entry) : Type 0 where
  pub place : (ports : Registers) × (may_stand ports table entry.address ≡ true)
  pub once : is_stated_in g table entry.address ≡ false
  pub some : is_some entry.value ≡ true
  pub within : leaves_limit table entry.value (stated g.cells entry.address) ≡ false
  pub room : is_full_with (length g.row_cells) table ≡ false

pub record IsClearRow (g : Gathering) (row : RowLine) : Type 0 where
  pub a : is_some row.a ≡ true
  pub q : is_some row.q ≡ true
  pub few : row_count g < 20000
  pub room : get_or g.counts row.location 0 < 512

-- the cell is erasable, and the open row has no link yet
pub record IsClearLink (g : Gathering) (link : Link) : Type 0 where
  pub erasable : is_fixed link.address ≡ false
  pub once : is_some g.row_link ≡ false

abbrev pub IsClear : Gathering → Statement → Type 0
IsClear g (Start location) = Unit {0}
IsClear g (EntryOf table entry) = IsClearEntry g table entry
IsClear g (May location) = Unit {0}
IsClear g (Row row) = IsClearRow g row
IsClear g (Linked link) = IsClearLink g link
IsClear g End = 1 ≤ row_count g

-- a statement has no fault: it stands in order, and has none by its kind
pub record IsFine (g : Gathering) (statement : Statement) : Type 0 where
  pub order : stands_in_order g.last statement ≡ true
  pub part : IsClear g statement

-- the statement doesn't belong to the row before it, which ends
abbrev pub EndsRow : Statement → Type 0
EndsRow (EntryOf At entry) = ⊥
EndsRow (Linked link) = ⊥
EndsRow _ = Unit {0}

-- what is kept has room for an entry where there is some after the statements before
pub full_before : (before : List Statement) (g : Gathering) → Gathered before g → (table : Table)
    → is_full_with (length g.row_cells) table ≡ is_full_with (length (entries_before table before)) table
full_before before g is At = rw is.rows.cells.count refl
full_before before g is _ = refl

-- and has a link where the row before has one
pub linked_before : (before : List Statement) (g : Gathering) → Gathered before g → is_some g.row_link ≡ nat_le 1 (length (row_links before))
linked_before before g is = linked (row_links before) g.row_link is.rows.link
  where
    linked : (links : List Link) (kept : Option Link) → IsLinkOf links kept → is_some kept ≡ nat_le 1 (length links)
    linked [] kept is = rw is refl
    linked (only ∷ []) kept is = rw is refl
    linked (first ∷ second ∷ links) kept is = absurd is

-- what it says of the statements before that an entry has no fault
pub record HasNoFault (ports : Registers) (before : List Statement) (table : Table) (entry : Entry) : Type 0 where
  pub place : may_stand ports table entry.address ≡ true
  pub once : has_address (entries_before table before) entry.address ≡ false
  pub some : is_some entry.value ≡ true
  pub within : leaves_limit table entry.value (value_at (entries Cell before) entry.address) ≡ false
  pub zero : lacks_word ports table entry ≡ false
  pub room : is_full_with (length (entries_before table before)) table ≡ false

pub no_fault : (ports : Registers) (before : List Statement) (table : Table) (entry : Entry) → entry_fault ports before table entry ≡ None
    → HasNoFault ports before table entry
no_fault ports before table entry none =
    let first = clear _ BadLine _ none in
    let second = clear _ Twice _ first.1 in
    let third = clear _ EmptyRange _ second.1 in
    let fourth = clear _ OutsideGlobal _ third.1 in
    let fifth = clear _ NoZero _ fourth.1 in
    let sixth = clear _ TooManyAt _ fifth.1 in
    record {
      place = not_false (may_stand ports table entry.address) first.0;
      once = second.0;
      some = not_empty entry.value third.0;
      within = fourth.0;
      zero = fifth.0;
      room = sixth.0;
    }

module _ (ports : Registers) (before : List Statement) (g : Gathering) (is : Gathered before g) where
  clear_entry : (table : Table) (entry : Entry) → entry_fault ports before table entry ≡ None → IsClearEntry g table entry
  clear_entry table entry none =
      let its = no_fault ports before table entry none in
      record {
        place = (ports, its.place);
        once = stated_before before g is table entry.address ∙ its.once;
        some = its.some;
        within = rw (is.tables.entered.cells.at entry.address) its.within;
        room = full_before before g is table ∙ its.room;
      }

  clear_row : (row : RowLine) → statement_fault ports before (Row row) ≡ None → IsClearRow g row
  clear_row row none =
      let first = clear _ _ _ none in
      let values = neither (is_empty row.a) (is_empty row.q) first.0 in
      let second = clear _ _ _ first.1 in
      let counts = neither _ _ second.0 in
      let few = room _ 20000 counts.0 in
      let here = room _ 512 counts.1 in
      record { a = not_empty row.a values.0; q = not_empty row.q values.1; few = rw is.count few; room = rw (is.tables.counts row.location) here }

  clear_part : (statement : Statement) → statement_fault ports before statement ≡ None → IsClear g statement
  clear_part (Start location) none = tt
  clear_part (EntryOf table entry) none = clear_entry table entry none
  clear_part (May location) none = tt
  clear_part (Row row) none = clear_row row none
  clear_part (Linked link) none =
      let first = clear (is_fixed link.address) BadLine (fault_if (nat_le 1 (length (row_links before))) Twice None) none in
      record { erasable = first.0; once = linked_before before g is ∙ (clear (nat_le 1 (length (row_links before))) Twice None first.1).0 }
  clear_part End none = rw is.count (some_left _ (clear _ _ _ none).0)

  pub fine : (statement : Statement) → fault_after ports before statement ≡ None → IsFine g statement
  fine statement none =
      let first = clear (is_second_start (last_kind before) statement) Twice _ none in
      let second = clear (not (stands_in_order (last_kind before) statement)) BadLine (statement_fault ports before statement) first.1 in
      record { order = rw is.tables.last (not_false (stands_in_order (last_kind before) statement) second.0); part = clear_part statement second.1 }

-- what is of the version and without a fault has none of the others
pub after_none : (ports : Registers) (version : ℕ) (before : List Statement) (statement : Statement) → fault_in ports version before statement ≡ None
    → fault_after ports before statement ≡ None
after_none ports version before statement none = (clear (not (is_of_version version statement)) BadLine (fault_after ports before statement) none).1

-- ---- a statement without a fault can be added

pub placed : (g : Gathering) (statement : Statement) → IsFine g statement → IsStatement statement → IsPlaced g.counts statement
placed g (Start location) fine is = tt
placed g (EntryOf In entry) fine is = is
placed g (EntryOf Out entry) fine is = is
placed g (EntryOf At entry) fine is = tt
placed g (EntryOf of_cells entry) fine is = erasable entry.address fine.part.place.1
placed g (May location) fine is = is
placed g (Row row) fine is = (is.location, fine.part.room)
placed g (Linked link) fine is = tt
placed g End fine is = tt

-- a cell of a row is erasable
pub below_fixed : (g : Gathering) (entry : Entry) → IsFine g (EntryOf At entry) → entry.address < 2048
below_fixed g entry fine = erasable entry.address fine.part.place.1
