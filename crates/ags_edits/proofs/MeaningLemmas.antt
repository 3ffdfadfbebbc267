-- Each text of edits means something, and one thing. Behind the law stand
--     one_list, some_edits
use Rattle.std.proofs.Common.{◌≡◌, ℕ, ◌<◌, ◌⊎◌, Bool, true, false, not, ◌||◌, refl, sym, ap, ◌∙◌, subst, List, [], ◌∷◌, ◌++◌, length, reverse, Option, Some, None, inl, inr, arith}
use Rattle.std.specs.Prelude.{All, nat_le, nat_lt}
use Rattle.std.proofs.lemmas.Bool.Decides.{nat_tests}
use Rattle.std.proofs.lemmas.List.{reverse-reverse}
use Rattle.ags_frame.specs.Fault.{has_ended}
use Rattle.ags_frame.specs.Reading.{Reading, IsFirstReading, IsReading}
use Rattle.ags_frame.proofs.ReadingLaws.{some_first_reading, one_first_reading, some_reading, one_reading}
use Rattle.ags_statements.specs.Text.{IsTextOf}
use Rattle.ags_statements.proofs.KeptLemmas.{no_fault, text_kept}
use Rattle.ags_statements.proofs.MeaningLemmas as statements
use Rattle.ags_statements.proofs.ReadLemmas.{EachIsRead}
use Rattle.ags_domain.specs.declared.values.Value.{Value}
use Rattle.ags_row.specs.Link.{is_link}
use Rattle.ags_row.specs.declared.links.Link.{Link}
use Rattle.ags_row.specs.declared.rows.Row.{Row as RowOf}
use Rattle.ags_certtext.specs.declared.statements.Entry.{Entry}
use Rattle.ags_certtext.specs.declared.statements.RowLine.{RowLine}
use Rattle.ags_certtext.specs.Fault.{is_empty, is_fixed}
use Rattle.ags_certtext.specs.Spelling.{is_offset}
use Rattle.ags_certtext.specs.Statement.{IsRowLine, has_address}
use Rattle.ags_certtext.specs.Text.{RowOfLines}
use Rattle.ags_certread.specs.Gathering.{with_entry}
use Rattle.ags_certread.proofs.UniqueLemmas.{rows_one}
use Rattle.ags_edits.specs.Gathering.{AreMade, Gathered, IsBareRow, IsSameBeside, IsWithCell, IsWithLink, at_fault}
use Rattle.ags_edits.specs.Spelling.{States}
use Rattle.ags_edits.specs.Text.{AreEditsOf, IsEditOf, IsEditsOf, IsFaultyEdits, IsLawful, IsWordOfMemory, edits_name, faults, is_end, is_open, line_fault, row_entries, row_links}
use Rattle.ags_edits.specs.declared.edits.Edit.{Edit}
use Rattle.ags_edits.specs.declared.edits.Edit.TheVariants as edit
use Rattle.ags_edits.specs.declared.edits_errors.EditsKind.{EditsKind}
use Rattle.ags_edits.specs.declared.edits_errors.EditsKind.TheVariants.{BadLine, Twice, EmptyRange, TooManyAt}
use Rattle.ags_edits.specs.declared.statements.EditLine.{EditLine}
use Rattle.ags_edits.specs.declared.statements.EditLine.TheVariants.{Word, Cell, Row, At, Linked, End}
use Rattle.ags_edits.specs.declared.statements.RowEdit.{RowEdit}
use Rattle.ags_edits.specs.declared.statements.WordEdit.{WordEdit}
use Rattle.ags_edits.proofs.EditLemmas.{all_gathered, gathered_lawful, ascending_with_cell, bare_grown, few_with_cell, last_first, linked_is, more, open_are, open_row, with_cell_grown, with_link_grown}
use Rattle.ags_edits.proofs.LineLemmas.{idle_states_nothing, name_field, one_statement, row_is, some_statement, word_below}

-- ---- the lines state one list of edits

some_same : {A : Type 0} {one other : A} → Some one ≡ Some other → one ≡ other
some_same same = cc

head_same : {row other : RowOf Value} → row ∷ [] ≡ other ∷ [] → row ≡ other
head_same same = cc

one_edit : (line : EditLine) (behind : List EditLine) (one other : Edit) → IsEditOf line behind one → IsEditOf line behind other → one ≡ other
one_edit (Word its) behind one other is also = is ∙ sym also
one_edit (Cell entry) behind one other is also =
    let same : is.0 ≡ also.0 = some_same (sym is.1 ∙ also.1) in
    is.2 ∙ ap (λ (value : Value). edit.Limit (record { address = entry.address; value = value })) same ∙ sym also.2
one_edit (Row its) behind one other is also =
    let lines : RowOfLines = record { line = its.new; cells = row_entries behind; links = row_links behind } in
    let same : is.0 ≡ also.0 = head_same (rows_one (lines ∷ []) (is.0 ∷ []) (also.0 ∷ []) (is.1, tt) (also.1, tt)) in
    is.2 ∙ ap (λ (row : RowOf Value). edit.Row its.row row) same ∙ sym also.2
one_edit (At entry) behind one other is also = absurd is
one_edit (Linked link) behind one other is also = absurd is
one_edit End behind one other is also = absurd is

cons_same : {one other : Edit} {edits others : List Edit} → one ≡ other → edits ≡ others → one ∷ edits ≡ other ∷ others
cons_same same rest = λ k. same k ∷ rest k

pub one_list : (lines : List EditLine) (one other : List Edit) → AreEditsOf lines one → AreEditsOf lines other → one ≡ other
one_list [] one other is also = is ∙ sym also
one_list (At entry ∷ lines) one other is also = one_list lines one other is also
one_list (Linked link ∷ lines) one other is also = one_list lines one other is also
one_list (End ∷ lines) one other is also = one_list lines one other is also
one_list (Word its ∷ lines) [] other is also = absurd is
one_list (Word its ∷ lines) (one ∷ edits) [] is also = absurd also
one_list (Word its ∷ lines) (one ∷ edits) (other ∷ others) is also = cons_same (one_edit (Word its) lines one other is.0 also.0) (one_list lines edits others is.1 also.1)
one_list (Cell its ∷ lines) [] other is also = absurd is
one_list (Cell its ∷ lines) (one ∷ edits) [] is also = absurd also
one_list (Cell its ∷ lines) (one ∷ edits) (other ∷ others) is also = cons_same (one_edit (Cell its) lines one other is.0 also.0) (one_list lines edits others is.1 also.1)
one_list (Row its ∷ lines) [] other is also = absurd is
one_list (Row its ∷ lines) (one ∷ edits) [] is also = absurd also
one_list (Row its ∷ lines) (one ∷ edits) (other ∷ others) is also = cons_same (one_edit (Row its) lines one other is.0 also.0) (one_list lines edits others is.1 also.1)

-- ---- a text without a fault has edits

-- the lines so far are gathered
record AreGathered (before : List EditLine) : Type 0 where
  pub edits : List Edit
  pub ended : Bool
  pub gathered : Gathered edits ended before

-- the last edit, of a row that is open
record IsLastRow (edits : List Edit) : Type 0 where
  pub number : ℕ
  pub row : RowOf Value
  pub others : List Edit
  pub is : edits ≡ edit.Row number row ∷ others

open_last : (cells : List Entry) (links : List Link) (before : List EditLine) (edits : List Edit) → AreMade cells links before edits → is_open before ≡ true → IsLastRow edits
open_last cells links [] edits made opens = absurd cc
open_last cells links (Word its ∷ before) edits made opens = absurd cc
open_last cells links (Cell its ∷ before) edits made opens = absurd cc
open_last cells links (Row its ∷ before) [] made opens = absurd made
open_last cells links (Row its ∷ before) (one ∷ edits) made opens =
    record { number = its.row; row = made.0.0; others = edits; is = ap (λ (e : Edit). e ∷ edits) made.0.2 }
open_last cells links (At entry ∷ before) edits made opens = open_last (cells ++ entry ∷ []) links before edits made opens
open_last cells links (Linked link ∷ before) edits made opens = open_last cells (links ++ link ∷ []) before edits made opens
open_last cells links (End ∷ before) edits made opens = absurd made

some_value : (value : Option Value) → is_empty value ≡ false → (held : Value) × (value ≡ Some held)
some_value None is = absurd cc
some_value (Some held) is = (held, refl)

erasable_is : (address : ℕ) → is_fixed address ≡ false → address < 2048
erasable_is address is = grind (arith, nat_tests, is)

-- the row of a line
some_bare : (line : RowLine) → IsRowLine line → is_empty line.a ≡ false → is_empty line.q ≡ false → (row : RowOf Value) × IsBareRow line row
some_bare line is a q =
    let (a_held, a_is) = some_value line.a a in
    let (q_held, q_is) = some_value line.q q in
    let row : RowOf Value = record {
      location = line.location;
      a = a_held;
      q = q_held;
      x = line.x;
      v = line.v;
      at = [];
      link = None;
      below = is.location;
      some_index = is.some_index;
      some_indicator = is.some_indicator;
      indices = is.indices;
      indicators = is.indicators;
      few = omega arith;
      ascending = refl;
      linked = refl;
    } in
    (row, record { location = refl; a = sym a_is; q = sym q_is; x = refl; v = refl; at = refl; link = refl })

beside : (row new : RowOf Value) → new.location ≡ row.location → new.a ≡ row.a → new.q ≡ row.q → new.x ≡ row.x → new.v ≡ row.v → IsSameBeside row new
beside row new location a q x v = record { location = location; a = a; q = q; x = x; v = v }

some_with_cell : (row : RowOf Value) (its : Entry) → its.address < 2048 → at_fault row its ≡ None → (new : RowOf Value) × IsWithCell row its new
some_with_cell row its below fine =
    let new : RowOf Value = record {
      location = row.location;
      a = row.a;
      q = row.q;
      x = row.x;
      v = row.v;
      at = with_entry its its.value row.at;
      link = row.link;
      below = row.below;
      some_index = row.some_index;
      some_indicator = row.some_indicator;
      indices = row.indices;
      indicators = row.indicators;
      few = few_with_cell row its fine;
      ascending = ascending_with_cell row its below fine;
      linked = row.linked;
    } in
    (new, record { beside = beside row new refl refl refl refl refl; at = refl; link = refl })

linked_may : (link : Link) → link.address < 2048 → is_offset link.offset ≡ true → is_link (Some link) ≡ true
linked_may link below offset = let low : nat_lt link.address 2048 ≡ true = grind (arith, nat_tests, below) in rw (low, offset) refl

some_with_link : (row : RowOf Value) (its : Link) → its.address < 2048 → is_offset its.offset ≡ true → (new : RowOf Value) × IsWithLink row its new
some_with_link row its below offset =
    let new : RowOf Value = record {
      location = row.location;
      a = row.a;
      q = row.q;
      x = row.x;
      v = row.v;
      at = row.at;
      link = Some its;
      below = row.below;
      some_index = row.some_index;
      some_indicator = row.some_indicator;
      indices = row.indices;
      indicators = row.indicators;
      few = row.few;
      ascending = row.ascending;
      linked = linked_may its below offset;
    } in
    (new, record { beside = beside row new refl refl refl refl refl; at = refl; link = refl })

either_false : (a b : Bool) → (not a || b) ≡ false → (a ≡ true) × (b ≡ false)
either_false true b is = (refl, is)
either_false false b is = absurd cc

both_false : (a b : Bool) → (a || b) ≡ false → (a ≡ false) × (b ≡ false)
both_false true b is = absurd cc
both_false false b is = (refl, is)

nothing : AreGathered []
nothing = record { edits = []; ended = false; gathered = record { are = refl; ended_is = refl } }

module _ (before : List EditLine) (so : AreGathered before) (un : has_ended is_end before ≡ false) where
  are : AreMade [] [] before (reverse so.edits)
  are = open_are so.edits so.ended before so.gathered (so.gathered.ended_is ∙ un)

  word_kept : (its : WordEdit) → IsWordOfMemory its.location its.word → AreGathered (Word its ∷ before)
  word_kept its below = record {
    edits = so.edits ++ edit.Word its.location its.word ∷ [];
    ended = false;
    gathered = record {
      are = subst (λ (l : List Edit). AreMade [] [] (Word its ∷ before) l) (sym (last_first so.edits (edit.Word its.location its.word))) ((refl, below), are);
      ended_is = refl;
    };
  }

  cell_kept : (its : Entry) (value : Value) → its.value ≡ Some value → its.address < 2048 → AreGathered (Cell its ∷ before)
  cell_kept its value stated below = record {
    edits = so.edits ++ edit.Limit (record { address = its.address; value = value }) ∷ [];
    ended = false;
    gathered = record {
      are = subst (λ (l : List Edit). AreMade [] [] (Cell its ∷ before) l) (sym (last_first so.edits (edit.Limit (record { address = its.address; value = value }))))
          ((value, stated, refl, below), are);
      ended_is = refl;
    };
  }

  row_kept : (its : RowEdit) (row : RowOf Value) → IsBareRow its.new row → AreGathered (Row its ∷ before)
  row_kept its row bare = record {
    edits = so.edits ++ edit.Row its.row row ∷ [];
    ended = false;
    gathered = record {
      are = subst (λ (l : List Edit). AreMade [] [] (Row its ∷ before) l) (sym (last_first so.edits (edit.Row its.row row))) ((row, bare_grown its.new row bare, refl), are);
      ended_is = refl;
    };
  }

  turned_last : (number : ℕ) (new : RowOf Value) (others : List Edit) → reverse (reverse others ++ edit.Row number new ∷ []) ≡ edit.Row number new ∷ others
  turned_last number new others = last_first (reverse others) (edit.Row number new) ∙ ap (λ (l : List Edit). edit.Row number new ∷ l) (reverse-reverse others)

  module _ (opens : is_open before ≡ true) where
    last : IsLastRow (reverse so.edits)
    last = open_last [] [] before (reverse so.edits) are opens

    last_made : AreMade [] [] before (edit.Row last.number last.row ∷ last.others)
    last_made = subst (λ (l : List Edit). AreMade [] [] before l) last.is are

    at_kept : (its : Entry) → its.address < 2048 → has_address (row_entries before) its.address ≡ false → is_empty its.value ≡ false
        → nat_le 64 (length (row_entries before)) ≡ false → AreGathered (At its ∷ before)
    at_kept its below once range room =
        let open_is = open_row [] [] before last.number last.row last.others last_made in
        let has = open_is.grown.cells_are.has its.address ∙ once in
        let count = ap (λ (n : ℕ). nat_le 64 n) open_is.grown.cells_are.count ∙ room in
        let fine : at_fault last.row its ≡ None = rw (has, range, count) refl in
        let (new, is) = some_with_cell last.row its below fine in
        record {
          edits = reverse last.others ++ edit.Row last.number new ∷ [];
          ended = false;
          gathered = record {
            are = subst (λ (l : List Edit). AreMade (its ∷ []) [] before l) (sym (turned_last last.number new last.others))
                (more [] (its ∷ []) [] [] before last.number last.row new last.others last_made
                (λ line c l grown. with_cell_grown line c l last.row new its fine is grown));
            ended_is = refl;
          };
        }

    link_kept : (its : Link) → its.address < 2048 → is_offset its.offset ≡ true → nat_le 1 (length (row_links before)) ≡ false → AreGathered (Linked its ∷ before)
    link_kept its below offset once =
        let open_is = open_row [] [] before last.number last.row last.others last_made in
        let none = linked_is (row_links before) last.row.link open_is.grown.link_is ∙ once in
        let (new, is) = some_with_link last.row its below offset in
        record {
          edits = reverse last.others ++ edit.Row last.number new ∷ [];
          ended = false;
          gathered = record {
            are = subst (λ (l : List Edit). AreMade [] (its ∷ []) before l) (sym (turned_last last.number new last.others))
                (more [] [] [] (its ∷ []) before last.number last.row new last.others last_made
                (λ line c l grown. with_link_grown line c l last.row new its none is grown));
            ended_is = refl;
          };
        }

  end_kept : AreGathered (End ∷ before)
  end_kept = record { edits = so.edits; ended = true; gathered = record { are = are; ended_is = refl } }

line_kept : (before : List EditLine) (line : List ℕ) (its : EditLine) (version : ℕ) → States line its → AreGathered before
    → faults.fault_after version before its ≡ None → AreGathered (its ∷ before)
line_kept before line (Word its) version states so none =
    let un = no_fault (has_ended is_end before) BadLine (line_fault before (Word its)) none in
    word_kept before so un.0 its (word_below line its states)
line_kept before line (Cell its) version states so none =
    let un = no_fault (has_ended is_end before) BadLine (line_fault before (Cell its)) none in
    let fixed = no_fault (is_fixed its.address) BadLine _ un.1 in
    let range = no_fault (is_empty its.value) EmptyRange _ fixed.1 in
    let (value, stated) = some_value its.value range.0 in
    cell_kept before so un.0 its value stated (erasable_is its.address fixed.0)
line_kept before line (Row its) version states so none =
    let un = no_fault (has_ended is_end before) BadLine (line_fault before (Row its)) none in
    let range = no_fault (is_empty its.new.a || is_empty its.new.q) EmptyRange _ un.1 in
    let both = both_false (is_empty its.new.a) (is_empty its.new.q) range.0 in
    let (row, bare) = some_bare its.new (row_is line its states) both.0 both.1 in
    row_kept before so un.0 its row bare
line_kept before line (At its) version states so none =
    let un = no_fault (has_ended is_end before) BadLine (line_fault before (At its)) none in
    let place = no_fault (not (is_open before) || is_fixed its.address) BadLine _ un.1 in
    let stands = either_false (is_open before) (is_fixed its.address) place.0 in
    let once = no_fault (has_address (row_entries before) its.address) Twice _ place.1 in
    let range = no_fault (is_empty its.value) EmptyRange _ once.1 in
    let room = no_fault (nat_le 64 (length (row_entries before))) TooManyAt _ range.1 in
    at_kept before so un.0 stands.0 its (erasable_is its.address stands.1) once.0 range.0 room.0
line_kept before line (Linked its) version states so none =
    let un = no_fault (has_ended is_end before) BadLine (line_fault before (Linked its)) none in
    let place = no_fault (not (is_open before) || is_fixed its.address) BadLine _ un.1 in
    let stands = either_false (is_open before) (is_fixed its.address) place.0 in
    let once = no_fault (nat_le 1 (length (row_links before))) Twice _ place.1 in
    link_kept before so un.0 stands.0 its (erasable_is its.address stands.1) states.within once.0
line_kept before line End version states so none =
    let un = no_fault (has_ended is_end before) BadLine (line_fault before End) none in end_kept before so un.0

edits_of : (text : List ℕ) (lines : List EditLine) → IsTextOf edits_name 1 States faults text lines → (edits : List Edit) × AreEditsOf lines edits
edits_of text lines is =
    let all = text_kept edits_name 1 States faults AreGathered line_kept nothing text lines is in
    (all.edits, all_gathered all.edits all.ended lines all.gathered)

pub some_edits : (text : List ℕ)
    → ((lines : List EditLine) × IsTextOf edits_name 1 States faults text lines) ⊎ ((line : ℕ) × (kind : EditsKind) × IsFaultyEdits text line kind)
    → ((edits : List Edit) × IsEditsOf text edits) ⊎ ((line : ℕ) × (kind : EditsKind) × IsFaultyEdits text line kind)
some_edits text (inl fine) =
    let found = edits_of text fine.0 fine.1 in inl (found.0, record { lines = fine.0; is_text = fine.1; are_edits = found.1 })
some_edits text (inr faulty) = inr faulty

-- ---- a text means something, and one thing

each_line : EachIsRead States
each_line line = some_reading States some_statement line

one_line : (line : List ℕ) (reading other : Reading EditLine) → IsReading States line reading → IsReading States line other → reading ≡ other
one_line line reading other is also = one_reading States line (one_statement line) (idle_states_nothing line) reading other is also

some_opening : (line : List ℕ) → (reading : Reading EditLine) × IsFirstReading edits_name 1 line reading
some_opening line = some_first_reading edits_name 1 line name_field

one_opening : (line : List ℕ) (reading other : Reading EditLine) → IsFirstReading edits_name 1 line reading → IsFirstReading edits_name 1 line other → reading ≡ other
one_opening line reading other is also = one_first_reading edits_name 1 line reading other name_field is also

module _ (text : List ℕ) where
  pub each_text_means : ((edits : List Edit) × IsEditsOf text edits) ⊎ ((line : ℕ) × (kind : EditsKind) × IsFaultyEdits text line kind)
  each_text_means = some_edits text (statements.some_meaning edits_name 1 States some_opening one_opening each_line one_line faults text)

  pub one_edits_of : (one other : List Edit) → IsEditsOf text one → IsEditsOf text other → one ≡ other
  one_edits_of one other is also =
      let lines = statements.one_text edits_name 1 States some_opening one_opening each_line one_line faults text is.lines also.lines is.is_text also.is_text in
      one_list is.lines one other is.are_edits (subst (λ (l : List EditLine). AreEditsOf l other) (sym lines) also.are_edits)

  pub one_fault_of : (line other_line : ℕ) (kind other_kind : EditsKind) → IsFaultyEdits text line kind → IsFaultyEdits text other_line other_kind
      → (line ≡ other_line) × (kind ≡ other_kind)
  one_fault_of line other_line kind other_kind is also =
      statements.one_fault edits_name 1 States some_opening one_opening each_line one_line faults text line other_line kind other_kind is also

  pub never_both : (edits : List Edit) (line : ℕ) (kind : EditsKind) → IsEditsOf text edits → IsFaultyEdits text line kind → ⊥
  never_both edits line kind is faulty =
      statements.not_both edits_name 1 States some_opening one_opening each_line one_line faults text is.lines line kind is.is_text faulty

  -- the edits are of the memory
  pub lawful_edits : (edits : List Edit) → IsEditsOf text edits → All IsLawful edits
  lawful_edits edits is =
      let all = text_kept edits_name 1 States faults AreGathered line_kept nothing text is.lines is.is_text in
      subst (λ (l : List Edit). All IsLawful l) (one_list is.lines all.edits edits (all_gathered all.edits all.ended is.lines all.gathered) is.are_edits)
      (gathered_lawful all.edits all.ended (reverse is.lines) all.gathered)
