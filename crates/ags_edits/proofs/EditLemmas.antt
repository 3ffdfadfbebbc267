-- The edits so far: what each line makes of them, and that they are in the end those of all lines.
use Rattle.std.proofs.Common.{◌≡◌, ℕ, ◌+◌, ◌<◌, ◌≤◌, Bool, true, false, not, refl, sym, ap, ◌∙◌, subst, List, [], ◌∷◌, ◌++◌, length, reverse, Option, Some, None, append_assoc, arith}
use Rattle.std.specs.List.{AllByRecursion}
use Rattle.std.specs.Prelude.{nat_le, filter, is_some, Result, Ok, Err, IfOk, IfErr, All}
use Rattle.std.proofs.Math.Bool.{or-true}
use Rattle.std.proofs.lemmas.Bool.{leb-false}
use Rattle.std.proofs.lemmas.List.Elements.{All-nil, All-cons}
use Rattle.std.proofs.lemmas.List.{append-nil, length-reverse, reverse-append, reverse-reverse}
use Rattle.ags_frame.specs.Fault.{has_ended}
use Rattle.ags_statements.specs.Taking.{TakesStatement, TellsUntaken}
use Rattle.ags_statements.specs.declared.gathers.Untaken.{Untaken}
use Rattle.ags_statements.specs.declared.gathers.Untaken.TheVariants.{Faulty, NoMemory}
use Rattle.ags_statements.proofs.KeptLemmas.{no_fault}
use Rattle.ags_domain.specs.declared.values.Value.{Value}
use Rattle.ags_row.specs.Cell.{cells_ascend}
use Rattle.ags_row.specs.declared.ats.At.{At as Cell_at}
use Rattle.ags_row.specs.declared.links.Link.{Link}
use Rattle.ags_row.specs.declared.rows.Row.{Row as RowOf}
use Rattle.ags_certtext.specs.declared.statements.Entry.{Entry}
use Rattle.ags_certtext.specs.declared.statements.RowLine.{RowLine}
use Rattle.ags_certtext.specs.Fault.{is_empty, is_fixed}
use Rattle.ags_certtext.specs.Statement.{value_at}
use Rattle.ags_certtext.specs.Text.{IsLinkOf, IsRowOfLines}
use Rattle.ags_certread.specs.Before.{AreCells}
use Rattle.ags_certread.specs.Gathering.{has_cell, with_entry}
use Rattle.ags_certread.proofs.CellLemmas.{AreCells-none, AreCells-more, ascend_more, count_more}
use Rattle.ags_certread.proofs.TableLemmas.{reverse-more, value_reversed}
use Rattle.ags_edits.specs.Gathering.{AreMade, Gathered, IsBareRow, IsGrown, IsLast, IsNoRow, IsWithCell, IsWithLink, at_fault, gathered_of, without_end}
use Rattle.ags_edits.specs.Text.{AreEditsOf, IsLawful, IsWordOfMemory, faults, is_edit, is_end, is_full, is_open, row_entries, row_links}
use Rattle.ags_edits.specs.declared.edits.Edit.{Edit}
use Rattle.ags_edits.specs.declared.edits.Edit.TheVariants as edit
use Rattle.ags_edits.specs.declared.edits_errors.EditsKind.{EditsKind}
use Rattle.ags_edits.specs.declared.edits_errors.EditsKind.TheVariants.{BadLine, Twice, EmptyRange, TooManyAt, TooManyEdits}
use Rattle.ags_edits.specs.declared.gatherers.Gatherer.{Gatherer}
use Rattle.ags_edits.specs.declared.statements.EditLine.{EditLine}
use Rattle.ags_edits.specs.declared.statements.EditLine.TheVariants.{Word, Cell, Row, At, Linked, End}
use Rattle.ags_edits.specs.declared.statements.RowEdit.{RowEdit}
use Rattle.ags_edits.specs.declared.statements.WordEdit.{WordEdit}

-- what holds of what is answered follows from what else holds of it
pub ok_also : {A E : Type 0} {P Q : A → Type 0} (found : Result A E) → ((x : A) → P x → Q x) → IfOk found P → IfOk found Q
ok_also (Ok x) more has = more x has
ok_also (Err e) more has = tt

-- ---- lists

pub last_first : {X : Type 0} (xs : List X) (x : X) → reverse (xs ++ x ∷ []) ≡ x ∷ reverse xs
last_first xs x = reverse-append xs (x ∷ [])

moved : {X : Type 0} (x : X) (xs tail : List X) → reverse (x ∷ xs) ++ tail ≡ reverse xs ++ x ∷ tail
moved {X} x xs tail = ap (λ (l : List X). l ++ tail) (reverse-more x xs) ∙ append_assoc (reverse xs) (x ∷ []) tail

-- ---- before END

unended : (before : List EditLine) (ended : Bool) → ended ≡ has_ended is_end before → ended ≡ false → has_ended is_end before ≡ false
unended before ended is none = sym is ∙ none

without : (before : List EditLine) → has_ended is_end before ≡ false → without_end before ≡ before
without [] none = refl
without (End ∷ before) none = absurd cc
without (_ ∷ before) none = refl

pub open_are : (edits : List Edit) (ended : Bool) (before : List EditLine) → Gathered edits ended before → ended ≡ false → AreMade [] [] before (reverse edits)
open_are edits ended before so none =
    subst (λ (l : List EditLine). AreMade [] [] l (reverse edits)) (without before (unended before ended so.ended_is none)) so.are

-- ---- how many they are

made_count : (cells : List Entry) (links : List Link) (before : List EditLine) (edits : List Edit) → AreMade cells links before edits → length edits ≡ length (filter is_edit before)
made_count cells links [] edits is = ap (λ (l : List Edit). length l) is
made_count cells links (Word its ∷ before) [] is = absurd is
made_count cells links (Word its ∷ before) (made ∷ edits) is = let rest = made_count [] [] before edits is.1 in omega (arith, rest)
made_count cells links (Cell its ∷ before) [] is = absurd is
made_count cells links (Cell its ∷ before) (made ∷ edits) is = let rest = made_count [] [] before edits is.1 in omega (arith, rest)
made_count cells links (Row its ∷ before) [] is = absurd is
made_count cells links (Row its ∷ before) (made ∷ edits) is = let rest = made_count [] [] before edits is.1 in omega (arith, rest)
made_count cells links (At entry ∷ before) edits is = made_count (cells ++ entry ∷ []) links before edits is
made_count cells links (Linked link ∷ before) edits is = made_count cells (links ++ link ∷ []) before edits is
made_count cells links (End ∷ before) edits is = absurd is

pub full_is : (edits : List Edit) (before : List EditLine) → AreMade [] [] before (reverse edits) → nat_le 10000 (length edits) ≡ is_full before
full_is edits before is = ap (λ (n : ℕ). nat_le 10000 n) (sym (length-reverse edits) ∙ made_count [] [] before (reverse edits) is)

-- ---- an edit more

pub bare_grown : (line : RowLine) (row : RowOf Value) → IsBareRow line row → IsGrown line [] [] row
bare_grown line row is = record {
  location = is.location;
  a = is.a;
  q = is.q;
  x = is.x;
  v = is.v;
  cells_are = subst (λ (l : List (Cell_at Value)). AreCells [] l) (sym is.at) AreCells-none;
  link_is = is.link;
}

module _ (g h : Gatherer) (version : ℕ) (none : g.ended ≡ false) (same : h.ended ≡ g.ended) where
  pub word_taken : (its : WordEdit) → IsWordOfMemory its.location its.word → nat_le 10000 (length g.edits.items) ≡ false → h.edits.items ≡ g.edits.items ++ edit.Word its.location its.word ∷ []
      → TakesStatement gathered_of faults version g (Word its) h
  word_taken its below room is = λ before so.
      let un = unended before g.ended so.ended_is none in
      let are = open_are g.edits.items g.ended before so none in
      let free = sym (full_is g.edits.items before are) ∙ room in (
        rw (un, free) refl,
        record {
          are = subst (λ (l : List Edit). AreMade [] [] (Word its ∷ before) l)
              (sym (ap (λ (l : List Edit). reverse l) is ∙ last_first g.edits.items (edit.Word its.location its.word))) ((refl, below), are);
          ended_is = same ∙ none;
        },
      )

  pub cell_taken : (its : Entry) (value : Value) → its.value ≡ Some value → is_fixed its.address ≡ false → nat_le 10000 (length g.edits.items) ≡ false
      → h.edits.items ≡ g.edits.items ++ edit.Limit (record { address = its.address; value = value }) ∷ [] → TakesStatement gathered_of faults version g (Cell its) h
  cell_taken its value stated below room is = λ before so.
      let un = unended before g.ended so.ended_is none in
      let are = open_are g.edits.items g.ended before so none in
      let free = sym (full_is g.edits.items before are) ∙ room in
      let erasable = leb-false 2048 its.address below in (
        rw (un, below, stated, free) refl,
        record {
          are = subst (λ (l : List Edit). AreMade [] [] (Cell its ∷ before) l)
              (sym (ap (λ (l : List Edit). reverse l) is ∙ last_first g.edits.items (edit.Limit (record { address = its.address; value = value }))))
              ((value, stated, refl, erasable), are);
          ended_is = same ∙ none;
        },
      )

  full_range : (value : Value) (stated : Option Value) → Some value ≡ stated → is_empty stated ≡ false
  full_range value stated is = rw (sym is) refl

  pub row_taken : (its : RowEdit) (row : RowOf Value) → IsBareRow its.new row → nat_le 10000 (length g.edits.items) ≡ false
      → h.edits.items ≡ g.edits.items ++ edit.Row its.row row ∷ [] → TakesStatement gathered_of faults version g (Row its) h
  row_taken its row bare room is = λ before so.
      let un = unended before g.ended so.ended_is none in
      let are = open_are g.edits.items g.ended before so none in
      let free = sym (full_is g.edits.items before are) ∙ room in
      let a = full_range row.a its.new.a bare.a in
      let q = full_range row.q its.new.q bare.q in (
        rw (un, a, q, free) refl,
        record {
          are = subst (λ (l : List Edit). AreMade [] [] (Row its ∷ before) l)
              (sym (ap (λ (l : List Edit). reverse l) is ∙ last_first g.edits.items (edit.Row its.row row))) ((row, bare_grown its.new row bare, refl), are);
          ended_is = same ∙ none;
        },
      )

module _ (g : Gatherer) (version : ℕ) (none : g.ended ≡ false) (full : nat_le 10000 (length g.edits.items) ≡ true) where
  full_before : (before : List EditLine) → gathered_of g before → is_full before ≡ true
  full_before before so = sym (full_is g.edits.items before (open_are g.edits.items g.ended before so none)) ∙ full

  pub word_full : (its : WordEdit) → TellsUntaken gathered_of faults version g (Word its) (Faulty TooManyEdits)
  word_full its = λ before so.
      let un = unended before g.ended so.ended_is none in
      let no_room = full_before before so in
      rw (un, no_room) refl

  pub cell_full : (its : Entry) (value : Value) → its.value ≡ Some value → is_fixed its.address ≡ false → TellsUntaken gathered_of faults version g (Cell its) (Faulty TooManyEdits)
  cell_full its value stated below = λ before so.
      let un = unended before g.ended so.ended_is none in
      let no_room = full_before before so in
      rw (un, below, stated, no_room) refl

  pub row_full : (its : RowEdit) (row : RowOf Value) → IsBareRow its.new row → TellsUntaken gathered_of faults version g (Row its) (Faulty TooManyEdits)
  row_full its row bare = λ before so.
      let un = unended before g.ended so.ended_is none in
      let no_room = full_before before so in
      let a : is_empty its.new.a ≡ false = rw (sym bare.a) refl in
      let q : is_empty its.new.q ≡ false = rw (sym bare.q) refl in
      rw (un, a, q, no_room) refl

-- ---- the row that is open

-- the last edit is that of a row, whose line stands before the AT and LINK lines
pub record IsOpenRow (cells : List Entry) (links : List Link) (before : List EditLine) (number : ℕ) (row : RowOf Value) : Type 0 where
  pub opened : is_open before ≡ true
  pub line : RowLine
  pub grown : IsGrown line (cells ++ row_entries before) (links ++ row_links before) row

row_same : {number other : ℕ} {row new : RowOf Value} → edit.Row number row ≡ edit.Row other new → row ≡ new
row_same same = cc

no_nil : {edits : List Edit} {made : Edit} → made ∷ edits ≡ [] → ⊥
no_nil same = absurd cc

pub open_row : (cells : List Entry) (links : List Link) (before : List EditLine) (number : ℕ) (row : RowOf Value) (edits : List Edit)
    → AreMade cells links before (edit.Row number row ∷ edits) → IsOpenRow cells links before number row
open_row cells links [] number row edits is = absurd (no_nil is)
open_row cells links (Word its ∷ before) number row edits is = let clash = is.0.0 in absurd cc
open_row cells links (Cell its ∷ before) number row edits is = let clash = is.0.2 in absurd cc
open_row cells links (Row its ∷ before) number row edits is = record {
  opened = refl;
  line = its.new;
  grown = subst (λ (l : List Entry). IsGrown its.new l (links ++ []) row) (sym (append-nil cells))
      (subst (λ (l : List Link). IsGrown its.new cells l row) (sym (append-nil links))
      (subst (λ (r : RowOf Value). IsGrown its.new cells links r) (sym (row_same is.0.2)) is.0.1));
}
open_row cells links (At entry ∷ before) number row edits is =
    let later = open_row (cells ++ entry ∷ []) links before number row edits is in record {
      opened = later.opened;
      line = later.line;
      grown = subst (λ (l : List Entry). IsGrown later.line l (links ++ row_links before) row) (append_assoc cells (entry ∷ []) (row_entries before)) later.grown;
    }
open_row cells links (Linked link ∷ before) number row edits is =
    let later = open_row cells (links ++ link ∷ []) before number row edits is in record {
      opened = later.opened;
      line = later.line;
      grown = subst (λ (l : List Link). IsGrown later.line (cells ++ row_entries before) l row) (append_assoc links (link ∷ []) (row_links before)) later.grown;
    }
open_row cells links (End ∷ before) number row edits is = absurd is

none_open : (cells : List Entry) (links : List Link) (before : List EditLine) → AreMade cells links before [] → is_open before ≡ false
none_open cells links [] is = refl
none_open cells links (Word its ∷ before) is = absurd is
none_open cells links (Cell its ∷ before) is = absurd is
none_open cells links (Row its ∷ before) is = absurd is
none_open cells links (At entry ∷ before) is = none_open (cells ++ entry ∷ []) links before is
none_open cells links (Linked link ∷ before) is = none_open cells (links ++ link ∷ []) before is
none_open cells links (End ∷ before) is = absurd is

not_open : (cells : List Entry) (links : List Link) (before : List EditLine) (made : Edit) (edits : List Edit) → IsNoRow made → AreMade cells links before (made ∷ edits)
    → is_open before ≡ false
not_open cells links [] made edits no_row is = absurd (no_nil is)
not_open cells links (Word its ∷ before) made edits no_row is = refl
not_open cells links (Cell its ∷ before) made edits no_row is = refl
not_open cells links (Row its ∷ before) made edits no_row is = absurd (subst IsNoRow is.0.2 no_row)
not_open cells links (At entry ∷ before) made edits no_row is = not_open (cells ++ entry ∷ []) links before made edits no_row is
not_open cells links (Linked link ∷ before) made edits no_row is = not_open cells (links ++ link ∷ []) before made edits no_row is
not_open cells links (End ∷ before) made edits no_row is = absurd is

no_last : (edits others : List Edit) (before : List EditLine) → IsLast edits None others → AreMade [] [] before (reverse edits) → is_open before ≡ false
no_last [] others before last are = none_open [] [] before are
no_last (first ∷ edits) others before last are = by_turned (reverse (first ∷ edits)) refl
  where
    by_turned : (turned : List Edit) → reverse (first ∷ edits) ≡ turned → is_open before ≡ false
    by_turned [] is = none_open [] [] before (subst (λ (l : List Edit). AreMade [] [] before l) is are)
    by_turned (made ∷ rest) is =
        not_open [] [] before made rest
        (last (reverse rest) made (sym (reverse-reverse (first ∷ edits)) ∙ ap (λ (l : List Edit). reverse l) is ∙ reverse-more made rest))
        (subst (λ (l : List Edit). AreMade [] [] before l) is are)

-- the row of the last edit is another from here on
pub more : (cells cells_too : List Entry) (links links_too : List Link) (before : List EditLine) (number : ℕ) (row new : RowOf Value) (edits : List Edit)
    → AreMade cells links before (edit.Row number row ∷ edits)
    → ((line : RowLine) (c : List Entry) (l : List Link) → IsGrown line (cells ++ c) (links ++ l) row → IsGrown line (cells_too ++ c) (links_too ++ l) new)
    → AreMade cells_too links_too before (edit.Row number new ∷ edits)
more cells cells_too links links_too [] number row new edits is grows = absurd (no_nil is)
more cells cells_too links links_too (Word its ∷ before) number row new edits is grows = let clash = is.0.0 in absurd cc
more cells cells_too links links_too (Cell its ∷ before) number row new edits is grows = let clash = is.0.2 in absurd cc
more cells cells_too links links_too (Row its ∷ before) number row new edits is grows =
    let grown = subst (λ (l : List Entry). IsGrown its.new l (links ++ []) row) (sym (append-nil cells))
    (subst (λ (l : List Link). IsGrown its.new cells l row) (sym (append-nil links))
    (subst (λ (r : RowOf Value). IsGrown its.new cells links r) (sym (row_same is.0.2)) is.0.1)) in
    let later = grows its.new [] [] grown in
    let here = subst (λ (l : List Entry). IsGrown its.new l links_too new) (append-nil cells_too)
    (subst (λ (l : List Link). IsGrown its.new (cells_too ++ []) l new) (append-nil links_too) later) in
    ((new, here, number_same is.0.2), is.1)
  where
    number_same : {its_row its_number : ℕ} {other : RowOf Value} → edit.Row its_number row ≡ edit.Row its_row other → edit.Row its_number new ≡ edit.Row its_row new
    number_same same = cc
more cells cells_too links links_too (At entry ∷ before) number row new edits is grows =
    more (cells ++ entry ∷ []) (cells_too ++ entry ∷ []) links links_too before number row new edits is (λ line c l grown.
    subst (λ (all : List Entry). IsGrown line all (links_too ++ l) new) (sym (append_assoc cells_too (entry ∷ []) c))
    (grows line (entry ∷ c) l (subst (λ (all : List Entry). IsGrown line all (links ++ l) row) (append_assoc cells (entry ∷ []) c) grown)))
more cells cells_too links links_too (Linked link ∷ before) number row new edits is grows =
    more cells cells_too (links ++ link ∷ []) (links_too ++ link ∷ []) before number row new edits is (λ line c l grown.
    subst (λ (all : List Link). IsGrown line (cells_too ++ c) all new) (sym (append_assoc links_too (link ∷ []) l))
    (grows line c (link ∷ l) (subst (λ (all : List Link). IsGrown line (cells ++ c) all row) (append_assoc links (link ∷ []) l) grown)))
more cells cells_too links links_too (End ∷ before) number row new edits is grows = absurd is

-- ---- a further cell

some_range : (value : Option Value) → is_empty value ≡ false → is_some value ≡ true
some_range None is = absurd cc
some_range (Some value) is = refl

record MayGrow (row : RowOf Value) (its : Entry) : Type 0 where
  pub once : has_cell row.at its.address ≡ false
  pub range : is_empty its.value ≡ false
  pub room : nat_le 64 (length row.at) ≡ false

may_grow : (row : RowOf Value) (its : Entry) → at_fault row its ≡ None → MayGrow row its
may_grow row its none =
    let once = no_fault (has_cell row.at its.address) Twice _ none in
    let range = no_fault (is_empty its.value) EmptyRange _ once.1 in
    let room = no_fault (nat_le 64 (length row.at)) TooManyAt _ range.1 in
    record { once = once.0; range = range.0; room = room.0 }

grown_few : (its : Entry) (value : Option Value) (cells : List (Cell_at Value)) → nat_le 64 (length cells) ≡ false → length (with_entry its value cells) ≤ 64
grown_few its None cells room = omega (arith, leb-false 64 (length cells) room)
grown_few its (Some value) cells room =
    let longer = count_more (record { address = its.address; value = value }) cells in omega (arith, leb-false 64 (length cells) room, longer)

grown_ascend : (its : Entry) (value : Option Value) (cells : List (Cell_at Value)) → its.address < 2048 → has_cell cells its.address ≡ false → cells_ascend 0 cells ≡ true
    → cells_ascend 0 (with_entry its value cells) ≡ true
grown_ascend its None cells below once ascends = ascends
grown_ascend its (Some value) cells below once ascends =
    ascend_more (record { address = its.address; value = value }) 0 cells (omega arith) below once ascends

pub few_with_cell : (row : RowOf Value) (its : Entry) → at_fault row its ≡ None → length (with_entry its its.value row.at) ≤ 64
few_with_cell row its none = grown_few its its.value row.at (may_grow row its none).room

pub ascending_with_cell : (row : RowOf Value) (its : Entry) → its.address < 2048 → at_fault row its ≡ None → cells_ascend 0 (with_entry its its.value row.at) ≡ true
ascending_with_cell row its below none = grown_ascend its its.value row.at below (may_grow row its none).once row.ascending

pub with_cell_grown : (line : RowLine) (c : List Entry) (l : List Link) (row new : RowOf Value) (its : Entry) → at_fault row its ≡ None → IsWithCell row its new
    → IsGrown line c l row → IsGrown line (its ∷ c) l new
with_cell_grown line c l row new its none is grown =
    let may = may_grow row its none in record {
      location = is.beside.location ∙ grown.location;
      a = ap (λ (v : Value). Some v) is.beside.a ∙ grown.a;
      q = ap (λ (v : Value). Some v) is.beside.q ∙ grown.q;
      x = is.beside.x ∙ grown.x;
      v = is.beside.v ∙ grown.v;
      cells_are = subst (λ (cells : List (Cell_at Value)). AreCells (its ∷ c) cells) (sym is.at)
          (AreCells-more c row.at its grown.cells_are may.once its.value refl (some_range its.value may.range));
      link_is = subst (λ (link : Option Link). IsLinkOf l link) (sym is.link) grown.link_is;
    }

-- ---- a link

pub linked_is : (links : List Link) (link : Option Link) → IsLinkOf links link → is_some link ≡ nat_le 1 (length links)
linked_is [] link is = rw is refl
linked_is (only ∷ []) link is = rw is refl
linked_is (first ∷ second ∷ links) link is = absurd is

first_link : (links : List Link) (link : Option Link) (its : Link) (made : Option Link) → is_some link ≡ false → IsLinkOf links link → made ≡ Some its → IsLinkOf (its ∷ links) made
first_link [] link its made none is same = same
first_link (only ∷ []) link its made none is same = let some : is_some (Some only) ≡ false = rw is at none in absurd cc
first_link (first ∷ second ∷ links) link its made none is same = absurd is

pub with_link_grown : (line : RowLine) (c : List Entry) (l : List Link) (row new : RowOf Value) (its : Link) → is_some row.link ≡ false → IsWithLink row its new
    → IsGrown line c l row → IsGrown line c (its ∷ l) new
with_link_grown line c l row new its none is grown = record {
  location = is.beside.location ∙ grown.location;
  a = ap (λ (v : Value). Some v) is.beside.a ∙ grown.a;
  q = ap (λ (v : Value). Some v) is.beside.q ∙ grown.q;
  x = is.beside.x ∙ grown.x;
  v = is.beside.v ∙ grown.v;
  cells_are = subst (λ (cells : List (Cell_at Value)). AreCells c cells) (sym is.at) grown.cells_are;
  link_is = first_link l row.link its new.link none grown.link_is is.link;
}

-- ---- AT and LINK lines are taken

module _ (g : Gatherer) (version : ℕ) (none : g.ended ≡ false) where
  -- the cell is a fixed one
  pub cell_fixed : (its : Entry) → is_fixed its.address ≡ true → TellsUntaken gathered_of faults version g (Cell its) (Faulty BadLine)
  cell_fixed its fixed = λ before so. let un = unended before g.ended so.ended_is none in rw (un, fixed) refl

  pub at_fixed : (its : Entry) → is_fixed its.address ≡ true → TellsUntaken gathered_of faults version g (At its) (Faulty BadLine)
  at_fixed its fixed = λ before so. let un = unended before g.ended so.ended_is none in rw (un, fixed, or-true (not (is_open before))) refl

  pub link_fixed : (its : Link) → is_fixed its.address ≡ true → TellsUntaken gathered_of faults version g (Linked its) (Faulty BadLine)
  link_fixed its fixed = λ before so. let un = unended before g.ended so.ended_is none in rw (un, fixed, or-true (not (is_open before))) refl

  -- memory was wanting, and that alone
  pub only_memory : {A : Type 0} (its : EditLine) (result : Result A (Untaken EditsKind)) → IfErr result (λ why. why ≡ NoMemory) → IfErr result (TellsUntaken gathered_of faults version g its)
  only_memory its (Ok x) is = tt
  only_memory its (Err why) is = rw is tt

  -- no row is open
  pub at_closed : (its : Entry) (others : List Edit) → IsLast g.edits.items None others → TellsUntaken gathered_of faults version g (At its) (Faulty BadLine)
  at_closed its others last = λ before so.
      let un = unended before g.ended so.ended_is none in
      let closed = no_last g.edits.items others before last (open_are g.edits.items g.ended before so none) in
      rw (un, closed) refl

  pub link_closed : (its : Link) (others : List Edit) → IsLast g.edits.items None others → TellsUntaken gathered_of faults version g (Linked its) (Faulty BadLine)
  link_closed its others last = λ before so.
      let un = unended before g.ended so.ended_is none in
      let closed = no_last g.edits.items others before last (open_are g.edits.items g.ended before so none) in
      rw (un, closed) refl

  module _ (number : ℕ) (row : RowOf Value) (others : List Edit) (last : g.edits.items ≡ others ++ edit.Row number row ∷ []) where
    are_last : (before : List EditLine) → gathered_of g before → AreMade [] [] before (edit.Row number row ∷ reverse others)
    are_last before so = subst (λ (l : List Edit). AreMade [] [] before l)
        (ap (λ (l : List Edit). reverse l) last ∙ last_first others (edit.Row number row)) (open_are g.edits.items g.ended before so none)

    opened : (before : List EditLine) → gathered_of g before → IsOpenRow [] [] before number row
    opened before so = open_row [] [] before number row (reverse others) (are_last before so)

    at_fault_is : (its : Entry) (before : List EditLine) → gathered_of g before → is_fixed its.address ≡ false → faults.fault_after version before (At its) ≡ at_fault row its
    at_fault_is its before so erasable =
        let un = unended before g.ended so.ended_is none in
        let open_is = opened before so in
        let opens = open_is.opened in
        let has = open_is.grown.cells_are.has its.address in
        let count = open_is.grown.cells_are.count in
        rw (un, opens, erasable, has, count) refl

    pub at_faulty : (its : Entry) (kind : EditsKind) → is_fixed its.address ≡ false → at_fault row its ≡ Some kind → TellsUntaken gathered_of faults version g (At its) (Faulty kind)
    at_faulty its kind erasable is = λ before so. at_fault_is its before so erasable ∙ is

    pub at_taken : (h : Gatherer) (its : Entry) (new : RowOf Value) → is_fixed its.address ≡ false → at_fault row its ≡ None → IsWithCell row its new
        → h.ended ≡ g.ended → h.edits.items ≡ others ++ edit.Row number new ∷ [] → TakesStatement gathered_of faults version g (At its) h
    at_taken h its new erasable fine is same edits_are = λ before so. (
      at_fault_is its before so erasable ∙ fine,
      record {
        are = subst (λ (l : List Edit). AreMade (its ∷ []) [] before l) (sym (ap (λ (l : List Edit). reverse l) edits_are ∙ last_first others (edit.Row number new)))
            (more [] (its ∷ []) [] [] before number row new (reverse others) (are_last before so) (λ line c l grown. with_cell_grown line c l row new its fine is grown));
        ended_is = same ∙ none;
      },
    )

    link_fault_is : (its : Link) (before : List EditLine) → gathered_of g before → is_fixed its.address ≡ false → (b : Bool) → is_some row.link ≡ b
        → (nat_le 1 (length (row_links before)) ≡ b) × (has_ended is_end before ≡ false) × (is_open before ≡ true)
    link_fault_is its before so erasable b is =
        let open_is = opened before so in
        (sym (linked_is (row_links before) row.link open_is.grown.link_is) ∙ is, unended before g.ended so.ended_is none, open_is.opened)

    pub link_twice : (its : Link) → is_fixed its.address ≡ false → is_some row.link ≡ true → TellsUntaken gathered_of faults version g (Linked its) (Faulty Twice)
    link_twice its erasable some = λ before so.
        let known = link_fault_is its before so erasable true some in
        let twice = known.0 in
        let un = known.1 in
        let opens = known.2 in
        rw (un, opens, erasable, twice) refl

    pub link_taken : (h : Gatherer) (its : Link) (new : RowOf Value) → is_fixed its.address ≡ false → is_some row.link ≡ false → IsWithLink row its new
        → h.ended ≡ g.ended → h.edits.items ≡ others ++ edit.Row number new ∷ [] → TakesStatement gathered_of faults version g (Linked its) h
    link_taken h its new erasable no_link is same edits_are = λ before so.
        let known = link_fault_is its before so erasable false no_link in
        let once = known.0 in
        let un = known.1 in
        let opens = known.2 in (
          rw (un, opens, erasable, once) refl,
          record {
            are = subst (λ (l : List Edit). AreMade [] (its ∷ []) before l) (sym (ap (λ (l : List Edit). reverse l) edits_are ∙ last_first others (edit.Row number new)))
                (more [] [] [] (its ∷ []) before number row new (reverse others) (are_last before so) (λ line c l grown. with_link_grown line c l row new its no_link is grown));
            ended_is = same ∙ none;
          },
        )

-- ---- the edits of all lines

-- one link at most is the same from either end
link_turned : (links : List Link) (link : Option Link) → IsLinkOf links link → IsLinkOf (reverse links) link
link_turned [] link is = is
link_turned (only ∷ []) link is = is
link_turned (first ∷ second ∷ links) link is = absurd is

grown_of_lines : (line : RowLine) (cells : List Entry) (links : List Link) (row : RowOf Value) → IsGrown line (reverse cells) (reverse links) row
    → IsRowOfLines (record { line = line; cells = cells; links = links }) row
grown_of_lines line cells links row is = record {
  location = is.location;
  a = is.a;
  q = is.q;
  x = is.x;
  v = is.v;
  cells = λ address. is.cells_are.at address ∙ sym (value_reversed (reverse cells) address is.cells_are.distinct)
      ∙ ap (λ (l : List Entry). value_at l address) (reverse-reverse cells);
  link = subst (λ (l : List Link). IsLinkOf l row.link) (reverse-reverse links) (link_turned (reverse links) row.link is.link_is);
}

forward : (before tail : List EditLine) (later edits : List Edit) → AreMade (reverse (row_entries tail)) (reverse (row_links tail)) before edits → AreEditsOf tail later
    → AreEditsOf (reverse before ++ tail) (reverse edits ++ later)
forward [] tail later edits made are = subst (λ (l : List Edit). AreEditsOf tail (reverse l ++ later)) (sym made) are
forward (At entry ∷ before) tail later edits made are =
    subst (λ (l : List EditLine). AreEditsOf l (reverse edits ++ later)) (sym (moved (At entry) before tail))
    (forward before (At entry ∷ tail) later edits (subst (λ (l : List Entry). AreMade l (reverse (row_links tail)) before edits) (sym (reverse-more entry (row_entries tail))) made) are)
forward (Linked link ∷ before) tail later edits made are =
    subst (λ (l : List EditLine). AreEditsOf l (reverse edits ++ later)) (sym (moved (Linked link) before tail))
    (forward before (Linked link ∷ tail) later edits (subst (λ (l : List Link). AreMade (reverse (row_entries tail)) l before edits) (sym (reverse-more link (row_links tail))) made) are)
forward (Word its ∷ before) tail later [] made are = absurd made
forward (Word its ∷ before) tail later (one ∷ edits) made are =
    subst (λ (l : List EditLine). AreEditsOf l (reverse (one ∷ edits) ++ later)) (sym (moved (Word its) before tail))
    (subst (λ (l : List Edit). AreEditsOf (reverse before ++ Word its ∷ tail) l) (sym (moved one edits later))
    (forward before (Word its ∷ tail) (one ∷ later) edits made.1 (made.0.0, are)))
forward (Cell its ∷ before) tail later [] made are = absurd made
forward (Cell its ∷ before) tail later (one ∷ edits) made are =
    subst (λ (l : List EditLine). AreEditsOf l (reverse (one ∷ edits) ++ later)) (sym (moved (Cell its) before tail))
    (subst (λ (l : List Edit). AreEditsOf (reverse before ++ Cell its ∷ tail) l) (sym (moved one edits later))
    (forward before (Cell its ∷ tail) (one ∷ later) edits made.1 ((made.0.0, made.0.1, made.0.2), are)))
forward (Row its ∷ before) tail later [] made are = absurd made
forward (Row its ∷ before) tail later (one ∷ edits) made are =
    subst (λ (l : List EditLine). AreEditsOf l (reverse (one ∷ edits) ++ later)) (sym (moved (Row its) before tail))
    (subst (λ (l : List Edit). AreEditsOf (reverse before ++ Row its ∷ tail) l) (sym (moved one edits later))
    (forward before (Row its ∷ tail) (one ∷ later) edits made.1
    ((made.0.0, grown_of_lines its.new (row_entries tail) (row_links tail) made.0.0 made.0.1, made.0.2), are)))
forward (End ∷ before) tail later edits made are = absurd made

all_of : (before tail : List EditLine) (edits : List Edit) → AreMade (reverse (row_entries tail)) (reverse (row_links tail)) before (reverse edits) → AreEditsOf tail []
    → AreEditsOf (reverse before ++ tail) edits
all_of before tail edits made none =
    subst (λ (l : List Edit). AreEditsOf (reverse before ++ tail) l) (append-nil (reverse (reverse edits)) ∙ reverse-reverse edits) (forward before tail [] (reverse edits) made none)

all_made : (before : List EditLine) (edits : List Edit) → AreMade [] [] (without_end before) (reverse edits) → AreEditsOf (reverse before) edits
all_made (End ∷ before) edits made =
    subst (λ (l : List EditLine). AreEditsOf l edits) (sym (reverse-more End before)) (all_of before (End ∷ []) edits made refl)
all_made [] edits made = subst (λ (l : List EditLine). AreEditsOf l edits) (append-nil (reverse [])) (all_of [] [] edits made refl)
all_made (Word its ∷ before) edits made =
    subst (λ (l : List EditLine). AreEditsOf l edits) (append-nil (reverse (Word its ∷ before))) (all_of (Word its ∷ before) [] edits made refl)
all_made (Cell its ∷ before) edits made =
    subst (λ (l : List EditLine). AreEditsOf l edits) (append-nil (reverse (Cell its ∷ before))) (all_of (Cell its ∷ before) [] edits made refl)
all_made (Row its ∷ before) edits made =
    subst (λ (l : List EditLine). AreEditsOf l edits) (append-nil (reverse (Row its ∷ before))) (all_of (Row its ∷ before) [] edits made refl)
all_made (At its ∷ before) edits made =
    subst (λ (l : List EditLine). AreEditsOf l edits) (append-nil (reverse (At its ∷ before))) (all_of (At its ∷ before) [] edits made refl)
all_made (Linked its ∷ before) edits made =
    subst (λ (l : List EditLine). AreEditsOf l edits) (append-nil (reverse (Linked its ∷ before))) (all_of (Linked its ∷ before) [] edits made refl)

pub all_gathered : (edits : List Edit) (ended : Bool) (lines : List EditLine) → Gathered edits ended (reverse lines) → AreEditsOf lines edits
all_gathered edits ended lines so = subst (λ (l : List EditLine). AreEditsOf l edits) (reverse-reverse lines) (all_made (reverse lines) edits so.are)

-- ---- they are lawful

all_lawful : (cells : List Entry) (links : List Link) (before : List EditLine) (edits : List Edit) → AreMade cells links before edits → AllByRecursion IsLawful edits
all_lawful cells links [] edits is = rw is tt
all_lawful cells links (Word its ∷ before) [] is = absurd is
all_lawful cells links (Word its ∷ before) (made ∷ edits) is = (subst IsLawful (sym is.0.0) is.0.1, all_lawful [] [] before edits is.1)
all_lawful cells links (Cell its ∷ before) [] is = absurd is
all_lawful cells links (Cell its ∷ before) (made ∷ edits) is = (subst IsLawful (sym is.0.2) is.0.3, all_lawful [] [] before edits is.1)
all_lawful cells links (Row its ∷ before) [] is = absurd is
all_lawful cells links (Row its ∷ before) (made ∷ edits) is = (subst IsLawful (sym is.0.2) tt, all_lawful [] [] before edits is.1)
all_lawful cells links (At entry ∷ before) edits is = all_lawful (cells ++ entry ∷ []) links before edits is
all_lawful cells links (Linked link ∷ before) edits is = all_lawful cells (links ++ link ∷ []) before edits is
all_lawful cells links (End ∷ before) edits is = absurd is

and_last : (edits : List Edit) (last : Edit) → AllByRecursion IsLawful edits → IsLawful last → AllByRecursion IsLawful (edits ++ last ∷ [])
and_last [] last all is = (is, tt)
and_last (first ∷ edits) last all is = (all.0, and_last edits last all.1 is)

turned_lawful : (edits : List Edit) → AllByRecursion IsLawful edits → AllByRecursion IsLawful (reverse edits)
turned_lawful [] all = tt
turned_lawful (first ∷ edits) all =
    subst (λ (l : List Edit). AllByRecursion IsLawful l) (sym (reverse-more first edits)) (and_last (reverse edits) first (turned_lawful edits all.1) all.0)

each_lawful : (edits : List Edit) → AllByRecursion IsLawful edits → All IsLawful edits
each_lawful [] all = All-nil IsLawful
each_lawful (first ∷ edits) all = All-cons IsLawful first edits all.0 (each_lawful edits all.1)

pub gathered_lawful : (edits : List Edit) (ended : Bool) (before : List EditLine) → Gathered edits ended before → All IsLawful edits
gathered_lawful edits ended before so =
    subst (λ (l : List Edit). All IsLawful l) (reverse-reverse edits)
    (each_lawful (reverse (reverse edits)) (turned_lawful (reverse edits) (all_lawful [] [] (without_end before) (reverse edits) so.are)))
