-- What a line states, by the fields that are cut from it; and that it states one thing at most.
use Rattle.std.proofs.Common.{◌≡◌, ℕ, ◌<◌, ◌^◌, ◌⊎◌, Bool, true, false, List, [], ◌∷◌, length, get_or, slice_index, Option, Some, None, IfSome, refl, sym, ap, ◌∙◌, subst, inl, inr, arith}
use Rattle.std.specs.Prelude.{codes}
use Rattle.std.specs.Bool.{then_some}
use Rattle.std.specs.List.{list_all}
use Rattle.std.proofs.lemmas.Int.Digits.{digits_value-lt}
use Rattle.ags_text.specs.Field.{AreBlanks, HasFields, IsField, is_blank, next_field, behind_field}
use Rattle.ags_text.specs.Numeral.{IsDecimal, Writes}
use Rattle.ags_text.proofs.Deciding.{Found, decide_bool, decide_list, number_found}
use Rattle.ags_text.proofs.FieldLaws.{standing_cut, cut_standing, number_field, writes_field, blanks_none, first_byte}
use Rattle.ags_row.specs.declared.links.Link.{Link}
use Rattle.ags_certtext.specs.Spelling.{States as StatesInCert, StatesEntry, StatesLink}
use Rattle.ags_certtext.specs.declared.statements.Entry.{Entry}
use Rattle.ags_certtext.specs.declared.statements.RowLine.{RowLine}
use Rattle.ags_certtext.specs.declared.statements.Statement.{Statement}
use Rattle.ags_certtext.specs.declared.statements.Statement.TheVariants as cert
use Rattle.ags_certtext.specs.declared.kinds.Table.TheVariants as table
use Rattle.ags_certtext.specs.Statement.{IsRowLine}
use Rattle.ags_certtext.proofs.FoundLemmas.{written_found}
use Rattle.ags_certtext.proofs.FrontLemmas.{signed_field, value_fields}
use Rattle.ags_certtext.proofs.ReadingLaws.{some_statement as some_in_cert, one_statement as one_in_cert}
use Rattle.ags_certtext.proofs.StatementFound.{some_row, one_row}
use Rattle.ags_certtext.proofs.StatementLemmas.{idle_states_nothing as idle_in_cert, row_states, row_stands}
use Rattle.ags_edits.specs.declared.keywords.Keyword.{Keyword}
use Rattle.ags_edits.specs.declared.keywords.Keyword.TheVariants as keyword
use Rattle.ags_edits.specs.declared.statements.EditLine.{EditLine}
use Rattle.ags_edits.specs.declared.statements.EditLine.TheVariants.{Word, Cell, Row, At, Linked, End}
use Rattle.ags_edits.specs.declared.statements.RowEdit.{RowEdit}
use Rattle.ags_edits.specs.declared.statements.WordEdit.{WordEdit}
use Rattle.ags_edits.specs.Operand.{AreOperands, IsRowEdit, IsShared, IsWordEdit, keyword_name, line_of}
use Rattle.ags_edits.specs.Spelling.{States}
use Rattle.ags_edits.specs.Text.{IsWordOfMemory, edits_name}

-- what is so of what is found
pub also : {A : Type 0} {P Q : A → Type 0} (found : Option A) → ((x : A) → P x → Q x) → IfSome found P → IfSome found Q
also None more has = has
also (Some x) more has = more x has

-- ---- fields

pub name_field : IsField edits_name
name_field = record { some = omega arith; marks = refl }

keyword_field : (its : Keyword) → IsField (keyword_name its)
keyword_field keyword.Word = record { some = omega arith; marks = refl }
keyword_field keyword.Row = record { some = omega arith; marks = refl }

count_field : (text : List ℕ) (number : ℕ) → IsDecimal 5 text number → IsField text
count_field text number is = number_field 10 5 text number (omega arith) is

place_field : (text : List ℕ) (address : ℕ) → Writes 8 4 text address → IsField text
place_field text address is = writes_field 8 4 text address (omega arith) (omega arith) is

word_field : (text : List ℕ) (word : ℕ) → Writes 8 6 text word → IsField text
word_field text word is = writes_field 8 6 text word (omega arith) (omega arith) is

letter : {one other : List ℕ} → one ≡ other → get_or one 0 0 ≡ get_or other 0 0
letter same = ap (λ (l : List ℕ). get_or l 0 0) same

-- ---- from the fields that are cut to what a line states

module _ (line : List ℕ) where
  word_states : (its : WordEdit) → next_field line ≡ codes "WORD" → IsWordEdit (behind_field line) its → States line (Word its)
  word_states its named is =
      let place = place_field (next_field (behind_field line)) its.location is.location_is in
      let digits = word_field (next_field (behind_field (behind_field line))) its.word is.word_is in
      record {
        place = next_field (behind_field line);
        digits = next_field (behind_field (behind_field line));
        location_is = is.location_is;
        word_is = is.word_is;
        fields = (cut_standing line (codes "WORD" ∷ next_field (behind_field line) ∷ next_field (behind_field (behind_field line)) ∷ [])
            ((keyword_field keyword.Word).some, (place.some, (digits.some, tt))) (named, (refl, (refl, is.ends)))).1;
      }

  row_edit_states : (its : RowEdit) → next_field line ≡ codes "ROW" → IsRowEdit (behind_field line) its → States line (Row its)
  row_edit_states its named is = record {
    number = next_field (behind_field line);
    number_is = is.number_is;
    row_is = row_states (codes "ROW" ∷ next_field (behind_field line) ∷ []) line (behind_field (behind_field line)) its.new
        (keyword_field keyword.Row, (count_field (next_field (behind_field line)) its.row is.number_is, tt)) (named, (refl, refl)) is.row_is;
  }

  pub fields_state : (name : Keyword) (its : EditLine) → keyword_name name ≡ next_field line → AreOperands name (behind_field line) its → States line its
  fields_state keyword.Word its named is = rw is.2 (word_states is.0 (sym named) is.1)
  fields_state keyword.Row its named is = rw is.2 (row_edit_states is.0 (sym named) is.1)

  of_shared : (statement : Statement) (its : EditLine) → StatesInCert line statement → line_of statement ≡ Some its → States line its
  of_shared (cert.Entry table.Cell entry) its states same = let is : Cell entry ≡ its = cc in subst (States line) is states
  of_shared (cert.Entry table.At entry) its states same = let is : At entry ≡ its = cc in subst (States line) is states
  of_shared (cert.Linked link) its states same = let is : Linked link ≡ its = cc in subst (States line) is states
  of_shared cert.End its states same = let is : End ≡ its = cc in subst (States line) is states
  of_shared _ its states same = absurd cc

  pub shared_states : (its : EditLine) → IsShared line its → States line its
  shared_states its is = of_shared is.0 its is.1 is.2

  -- ---- and back

  -- the name of a line and the text after it are those of what it states
  abbrev pub AreNamed : EditLine → Type 0
  AreNamed its = (name : Keyword) × (keyword_name name ≡ next_field line) × AreOperands name (behind_field line) its

  -- the line has another name
  abbrev pub HasNone : Type 0
  HasNone = (name : Keyword) → keyword_name name ≡ next_field line → ⊥

  differs : (text : List ℕ) → next_field line ≡ text → (get_or text 0 0 ≡ 87 → ⊥) → (get_or text 0 0 ≡ 82 → ⊥) → HasNone
  differs text is no_word no_row keyword.Word named = no_word (letter (sym is ∙ sym named))
  differs text is no_word no_row keyword.Row named = no_row (letter (sym is ∙ sym named))

  entry_named : (name : List ℕ) (entry : Entry) → IsField name → StatesEntry name line entry → next_field line ≡ name
  entry_named name entry field is = (standing_cut line (name ∷ is.place ∷ is.value)
      (field, (place_field is.place entry.address is.address_is, value_fields is.value entry.value is.value_is)) is.fields).0

  link_named : (link : Link) → StatesLink line link → next_field line ≡ codes "LINK"
  link_named link is = (standing_cut line (codes "LINK" ∷ is.place ∷ is.offset ∷ [])
      (record { some = omega arith; marks = refl }, (place_field is.place link.address is.address_is, (signed_field is.offset link.offset is.offset_is, tt))) is.fields).0

  end_named : HasFields line (codes "END" ∷ []) → next_field line ≡ codes "END"
  end_named is = (standing_cut line (codes "END" ∷ []) (record { some = omega arith; marks = refl }, tt) is).0

  shared_named : (statement : Statement) (made : EditLine) → StatesInCert line statement → line_of statement ≡ Some made → HasNone
  shared_named (cert.Entry table.Cell entry) made states is =
      differs (codes "CELL") (entry_named (codes "CELL") entry (record { some = omega arith; marks = refl }) states) (λ h. omega (arith, h)) (λ h. omega (arith, h))
  shared_named (cert.Entry table.At entry) made states is =
      differs (codes "AT") (entry_named (codes "AT") entry (record { some = omega arith; marks = refl }) states) (λ h. omega (arith, h)) (λ h. omega (arith, h))
  shared_named (cert.Linked link) made states is = differs (codes "LINK") (link_named link states) (λ h. omega (arith, h)) (λ h. omega (arith, h))
  shared_named cert.End made states is = differs (codes "END") (end_named states) (λ h. omega (arith, h)) (λ h. omega (arith, h))
  shared_named _ made states is = absurd cc

  abbrev pub HasParts : EditLine → Type 0
  HasParts its = AreNamed its ⊎ (IsShared line its × HasNone)

  shared_parts : (statement : Statement) (its : EditLine) → StatesInCert line statement → line_of statement ≡ Some its → HasParts its
  shared_parts statement its states is = inr ((statement, states, is), shared_named statement its states is)

  pub state_parts : (its : EditLine) → States line its → HasParts its
  state_parts (Word its) is =
      let cut = standing_cut line (codes "WORD" ∷ is.place ∷ is.digits ∷ [])
      (keyword_field keyword.Word, (place_field is.place its.location is.location_is, (word_field is.digits its.word is.word_is, tt))) is.fields in
      inl (keyword.Word, sym cut.0, (its, record { location_is = rw cut.1.0 is.location_is; word_is = rw cut.1.1.0 is.word_is; ends = cut.1.1.1 }, refl))
  state_parts (Row its) is =
      let stands = row_stands (codes "ROW" ∷ is.number ∷ []) line its.new (keyword_field keyword.Row, (count_field is.number its.row is.number_is, tt)) is.row_is in
      inl (keyword.Row, sym stands.at_front.0, (its, record { number_is = rw stands.at_front.1.0 is.number_is; row_is = rw stands.at_front.1.1 stands.is_row }, refl))
  state_parts (Cell entry) is = shared_parts (cert.Entry table.Cell entry) (Cell entry) is refl
  state_parts (At entry) is = shared_parts (cert.Entry table.At entry) (At entry) is refl
  state_parts (Linked link) is = shared_parts (cert.Linked link) (Linked link) is refl
  state_parts End is = shared_parts cert.End End is refl

-- ---- nothing is not something

pub none_some : {A : Type 0} (x : A) → ◌≡◌ {A = Option A} None (Some x) → ⊥
none_some x same = absurd cc

-- ---- a row's edit, by its parts

some_is : {A : Type 0} {one other : A} → Some one ≡ Some other → one ≡ other
some_is same = cc

pub row_edit_some : (row : ℕ) (new : RowLine) (its : RowEdit) → Some row ≡ Some its.row → Some new ≡ Some its.new → Some (record { row = row; new = new }) ≡ Some its
row_edit_some row new its same_row same_new = rw (some_is same_row, some_is same_new) refl

-- ---- a line states one thing at most

one_keyword : (one other : Keyword) → keyword_name one ≡ keyword_name other → one ≡ other
one_keyword keyword.Word keyword.Word same = refl
one_keyword keyword.Word keyword.Row same = absurd (omega (arith, letter same))
one_keyword keyword.Row keyword.Word same = absurd (omega (arith, letter same))
one_keyword keyword.Row keyword.Row same = refl

word_of : ℕ → ℕ → WordEdit
word_of location word = record { location = location; word = word }

one_word : (text : List ℕ) (one other : WordEdit) → IsWordEdit text one → IsWordEdit text other → one ≡ other
unfolding word_of
one_word text one other is so =
    ap (λ (location : ℕ). word_of location one.word) (sym is.location_is.value ∙ so.location_is.value)
    ∙ ap (λ (word : ℕ). word_of other.location word) (sym is.word_is.value ∙ so.word_is.value)

-- what the fields of a text state, where nothing but blanks stands after them
module _ (text rest : List ℕ) (found : WordEdit) (blank : Bool) (result : Option WordEdit) (is : result ≡ then_some blank found) (told : blank ≡ list_all is_blank rest)
    (has : AreBlanks rest → IsWordEdit text found) where
  pub word_found_there : IfSome result (IsWordEdit text)
  word_found_there = rw is (by_test blank told)
    where
      by_test : (test : Bool) → test ≡ list_all is_blank rest → IfSome (then_some test found) (IsWordEdit text)
      by_test true same = has (sym same)
      by_test false other = tt

  pub word_alone : (AreBlanks (behind_field (behind_field text)) → AreBlanks rest) → (its : WordEdit) → IsWordEdit text its → result ≡ Some its
  word_alone ends its also =
      let blanks = ends also.ends in
      rw (is, told ∙ blanks) (ap (λ (edit : WordEdit). Some edit) (one_word text found its (has blanks) also))

row_of : ℕ → RowLine → RowEdit
row_of row new = record { row = row; new = new }

pub one_row_edit : (text : List ℕ) (one other : RowEdit) → IsRowEdit text one → IsRowEdit text other → one ≡ other
unfolding row_of
one_row_edit text one other is so =
    ap (λ (row : ℕ). row_of row one.new) (is.number_is.value ∙ sym so.number_is.value)
    ∙ ap (λ (new : RowLine). row_of other.row new) (one_row (behind_field text) one.new other.new is.row_is so.row_is)

one_of_keyword : (name : Keyword) (text : List ℕ) (one other : EditLine) → AreOperands name text one → AreOperands name text other → one ≡ other
one_of_keyword keyword.Word text one other is so = is.2 ∙ ap (λ (its : WordEdit). Word its) (one_word text is.0 so.0 is.1 so.1) ∙ sym so.2
one_of_keyword keyword.Row text one other is so = is.2 ∙ ap (λ (its : RowEdit). Row its) (one_row_edit text is.0 so.0 is.1 so.1) ∙ sym so.2

-- what stands after a keyword, as it is found
pub word_operands : (name : Keyword) (text : List ℕ) (its : WordEdit) → name ≡ keyword.Word → IsWordEdit text its → AreOperands name text (Word its)
word_operands name text its is found = rw is (its, found, refl)

pub row_operands : (name : Keyword) (text : List ℕ) (its : RowEdit) → name ≡ keyword.Row → IsRowEdit text its → AreOperands name text (Row its)
row_operands name text its is found = rw is (its, found, refl)

pub one_operands : (name : Keyword) (text : List ℕ) (found : EditLine) → AreOperands name text found → (its : EditLine) → AreOperands name text its → Some found ≡ Some its
one_operands name text found is its also = ap (λ (line : EditLine). Some line) (one_of_keyword name text found its is also)

-- and nothing, where nothing is found
pub no_word : (name : Keyword) (text : List ℕ) → name ≡ keyword.Word → ((its : WordEdit) → IsWordEdit text its → ◌≡◌ {A = Option WordEdit} None (Some its))
    → (its : EditLine) → AreOperands name text its → ⊥
no_word name text is none its are = let has = rw is at are in none_some has.0 (none has.0 has.1)

pub no_row : (name : Keyword) (text : List ℕ) → name ≡ keyword.Row → ((its : RowEdit) → IsRowEdit text its → ◌≡◌ {A = Option RowEdit} None (Some its))
    → (its : EditLine) → AreOperands name text its → ⊥
no_row name text is none its are = let has = rw is at are in none_some has.0 (none has.0 has.1)

pub one_shared : (line : List ℕ) (one other : EditLine) → IsShared line one → IsShared line other → one ≡ other
one_shared line one other is so =
    let same : is.0 ≡ so.0 = one_in_cert line is.0 so.0 is.1 so.1 in
    some_is (sym is.2 ∙ ap line_of same ∙ so.2)

one_of_parts : (line : List ℕ) (one other : EditLine) → HasParts line one → HasParts line other → one ≡ other
one_of_parts line one other (inl is) (inl so) =
    let name : so.0 ≡ is.0 = one_keyword so.0 is.0 (so.1 ∙ sym is.1) in
    one_of_keyword is.0 (behind_field line) one other is.2 (rw name at so.2)
one_of_parts line one other (inl is) (inr so) = absurd (so.1 is.0 is.1)
one_of_parts line one other (inr is) (inl so) = absurd (is.1 so.0 so.1)
one_of_parts line one other (inr is) (inr so) = one_shared line one other is.0 so.0

pub one_statement : (line : List ℕ) (one other : EditLine) → States line one → States line other → one ≡ other
one_statement line one other is so = one_of_parts line one other (state_parts line one is) (state_parts line other so)

-- what a line with a keyword states stands after it, and what another states a certificate's line states too
keyword_of_parts : (line : List ℕ) (name : Keyword) (its : EditLine) → keyword_name name ≡ next_field line → HasParts line its → AreOperands name (behind_field line) its
keyword_of_parts line name its named (inl has) = rw (one_keyword has.0 name (has.1 ∙ sym named)) at has.2
keyword_of_parts line name its named (inr has) = absurd (has.1 name named)

pub by_keyword : (line : List ℕ) (name : Keyword) (its : EditLine) → keyword_name name ≡ next_field line → States line its → AreOperands name (behind_field line) its
by_keyword line name its named states = keyword_of_parts line name its named (state_parts line its states)

none_of_parts : (line : List ℕ) (its : EditLine) → HasNone line → HasParts line its → IsShared line its
none_of_parts line its none (inl has) = absurd (none has.0 has.1)
none_of_parts line its none (inr has) = has.0

pub by_none : (line : List ℕ) (its : EditLine) → HasNone line → States line its → IsShared line its
by_none line its none states = none_of_parts line its none (state_parts line its states)

-- ---- each line states something or nothing

word_found : (text : List ℕ) → Found WordEdit (IsWordEdit text)
word_found text = elim (written_found 4 (next_field text)) [
  | inr none ↦ inr (λ its is. none its.location is.location_is)
  | inl place ↦ elim (written_found 6 (next_field (behind_field text))) [
    | inr none ↦ inr (λ its is. none its.word is.word_is)
    | inl digits ↦ elim (decide_bool (list_all is_blank (behind_field (behind_field text)))) [
      | inr more ↦ inr (λ its is. more is.ends)
      | inl ends ↦ inl (record { location = place.it; word = digits.it }, record { location_is = place.is; word_is = digits.is; ends = ends })
    ]
  ]
]

row_edit_found : (text : List ℕ) → Found RowEdit (IsRowEdit text)
row_edit_found text = elim (number_found 10 5 (next_field text)) [
  | inr none ↦ inr (λ its is. none its.row is.number_is)
  | inl number ↦ elim (some_row (behind_field text)) [
    | inr none ↦ inr (λ its is. none its.new is.row_is)
    | inl row ↦ inl (record { row = number.0; new = row.0 }, record { number_is = number.1; row_is = row.1 })
  ]
]

operands_found : (name : Keyword) (text : List ℕ) → Found EditLine (AreOperands name text)
operands_found keyword.Word text = elim (word_found text) [
  | inl found ↦ inl (Word found.0, (found.0, found.1, refl))
  | inr none ↦ inr (λ its is. none is.0 is.1)
]
operands_found keyword.Row text = elim (row_edit_found text) [
  | inl found ↦ inl (Row found.0, (found.0, found.1, refl))
  | inr none ↦ inr (λ its is. none is.0 is.1)
]

shared_of : (line : List ℕ) (statement : Statement) → StatesInCert line statement → (made : Option EditLine) → line_of statement ≡ made → Found EditLine (IsShared line)
shared_of line statement states (Some its) is = inl (its, (statement, states, is))
shared_of line statement states None is = inr (λ its so.
    let same : statement ≡ so.0 = one_in_cert line statement so.0 states so.1 in
    let clash : None ≡ Some its = sym is ∙ ap line_of same ∙ so.2 in
    absurd cc)

shared_found : (line : List ℕ) → Found EditLine (IsShared line)
shared_found line = elim (some_in_cert line) [
  | inl found ↦ shared_of line found.0 found.1 (line_of found.0) refl
  | inr none ↦ inr (λ its so. none so.0 so.1)
]

keyword_found : (text : List ℕ) → Found Keyword (λ name. keyword_name name ≡ text)
keyword_found text = elim (decide_list (codes "WORD") text) [
  | inl is ↦ inl (keyword.Word, is)
  | inr no_word ↦ elim (decide_list (codes "ROW") text) [
    | inl is ↦ inl (keyword.Row, is)
    | inr no_row ↦ inr (λ name is. none no_word no_row name is)
  ]
]
  where
    none : (codes "WORD" ≡ text → ⊥) → (codes "ROW" ≡ text → ⊥) → (name : Keyword) → keyword_name name ≡ text → ⊥
    none no_word no_row keyword.Word is = no_word is
    none no_word no_row keyword.Row is = no_row is

pub some_statement : (line : List ℕ) → Found EditLine (States line)
some_statement line = elim (keyword_found (next_field line)) [
  | inl name ↦ elim (operands_found name.0 (behind_field line)) [
    | inl found ↦ inl (found.0, fields_state line name.0 found.0 name.1 found.1)
    | inr none ↦ inr (λ its is. named name.0 name.1 none its (state_parts line its is))
  ]
  | inr other ↦ elim (shared_found line) [
    | inl found ↦ inl (found.0, shared_states line found.0 found.1)
    | inr none ↦ inr (λ its is. unnamed other none its (state_parts line its is))
  ]
]
  where
    named : (name : Keyword) → keyword_name name ≡ next_field line → ((its : EditLine) → AreOperands name (behind_field line) its → ⊥) → (its : EditLine) → HasParts line its → ⊥
    named name is none its (inl has) = none its (rw (one_keyword has.0 name (has.1 ∙ sym is)) at has.2)
    named name is none its (inr has) = has.1 name is

    unnamed : HasNone line → ((its : EditLine) → IsShared line its → ⊥) → (its : EditLine) → HasParts line its → ⊥
    unnamed other none its (inl has) = other has.0 has.1
    unnamed other none its (inr has) = none its has.0

-- ---- a line that is skipped states nothing

sign_first : (line : List ℕ) → get_or line 0 0 ≡ 35 → get_or (next_field line) 0 0 ≡ 35
sign_first [] is = absurd (omega arith)
sign_first (b ∷ line) is = first_byte b line (rw is refl) ∙ is

no_keyword : (name : Keyword) → keyword_name name ≡ [] → ⊥
no_keyword keyword.Word is = absurd cc
no_keyword keyword.Row is = absurd cc

no_sign : (name : Keyword) → get_or (keyword_name name) 0 0 ≡ 35 → ⊥
no_sign keyword.Word is = omega (arith, is)
no_sign keyword.Row is = omega (arith, is)

idle_named : (line : List ℕ) (name : Keyword) → keyword_name name ≡ next_field line → AreBlanks line ⊎ (slice_index line 0 ≡ 35) → ⊥
idle_named line name named (inl blank) = no_keyword name (named ∙ (blanks_none line blank).0)
idle_named line name named (inr sign) = no_sign name (ap (λ (l : List ℕ). get_or l 0 0) named ∙ sign_first line sign)

pub idle_states_nothing : (line : List ℕ) (its : EditLine) → AreBlanks line ⊎ (slice_index line 0 ≡ 35) → States line its → ⊥
idle_states_nothing line its idle states = of_parts (state_parts line its states)
  where
    of_parts : HasParts line its → ⊥
    of_parts (inl has) = idle_named line has.0 has.1 idle
    of_parts (inr has) = idle_in_cert line has.0.0 idle has.0.1

-- ---- what a line states is of the machine

small_address : (text : List ℕ) (number : ℕ) → Writes 8 4 text number → number < 4096
small_address text number is =
    let below : number < 8 ^ length text = rw is.value at (digits_value-lt 8 text is.digits) in
    let same : 8 ^ length text ≡ 4096 = ap (λ n. 8 ^ n) is.length in
    omega (arith, below, same)

small_word : (text : List ℕ) (number : ℕ) → Writes 8 6 text number → number < 2 ^ 18
small_word text number is =
    let below : number < 8 ^ length text = rw is.value at (digits_value-lt 8 text is.digits) in
    let same : 8 ^ length text ≡ 262144 = ap (λ n. 8 ^ n) is.length in
    omega (arith, below, same)

pub word_below : (line : List ℕ) (its : WordEdit) → States line (Word its) → IsWordOfMemory its.location its.word
word_below line its is = (small_address is.place its.location is.location_is, small_word is.digits its.word is.word_is)

pub row_is : (line : List ℕ) (its : RowEdit) → States line (Row its) → IsRowLine its.new
row_is line its is = record {
  location = small_address is.row_is.place its.new.location is.row_is.location_is;
  indices = is.row_is.indices;
  indicators = is.row_is.indicators;
  some_index = is.row_is.some_index;
  some_indicator = is.row_is.some_indicator;
}
