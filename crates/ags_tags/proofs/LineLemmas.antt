-- What a line states, by the fields that are cut from it; and that it states one thing at most.
use Rattle.std.proofs.Common.{◌≡◌, ℕ, ℤ, ◌⊎◌, Bool, true, false, List, [], ◌∷◌, get_or, slice_index, Option, Some, None, IfSome, refl, sym, ap, ◌∙◌, inl, inr, arith}
use Rattle.std.specs.Prelude.{codes}
use Rattle.std.specs.Bool.{then_some}
use Rattle.std.specs.List.{list_all}
use Rattle.ags_text.specs.Field.{AreBlanks, IsField, is_blank, next_field, behind_field}
use Rattle.ags_text.specs.Numeral.{IsDecimal, Writes}
use Rattle.ags_text.proofs.Deciding.{Decided, Found, decide_bool, decide_list, number_found}
use Rattle.ags_text.proofs.FieldLaws.{standing_cut, cut_standing, number_field, writes_field, blanks_none, first_byte}
use Rattle.ags_certtext.proofs.FoundLemmas.{written_found}
use Rattle.ags_tags.specs.declared.keywords.Keyword.{Keyword}
use Rattle.ags_tags.specs.declared.keywords.Keyword.TheVariants as keyword
use Rattle.ags_tags.specs.declared.statements.Entry.{Entry}
use Rattle.ags_tags.specs.declared.statements.RowEntry.{RowEntry}
use Rattle.ags_tags.specs.declared.statements.ScaleLine.{ScaleLine}
use Rattle.ags_tags.specs.declared.statements.ScaleLine.TheVariants.{Scaled, Tagged, End}
use Rattle.ags_tags.specs.declared.statements.Table.{Table}
use Rattle.ags_tags.specs.declared.statements.Table.TheVariants.{Cell, In, Out}
use Rattle.ags_tags.specs.declared.tags.RowTag.{RowTag}
use Rattle.ags_tags.specs.Operand.{IsEntry, IsRowEntry, AreOperands, keyword_name}
use Rattle.ags_tags.specs.Spelling.{States, table_name}
use Rattle.ags_tags.specs.Text.{scales_name}
use Rattle.ags_tags.proofs.NumberLemmas.{one_scale, scale_found, scale_field, one_row_tag, row_tag_found, row_tag_field}

-- what is so of what is found
pub also : {A : Type 0} {P Q : A → Type 0} (found : Option A) → ((x : A) → P x → Q x) → IfSome found P → IfSome found Q
also None more has = has
also (Some x) more has = more x has

-- ---- fields

pub name_field : IsField scales_name
name_field = record { some = omega arith; marks = refl }

keyword_field : (its : Keyword) → IsField (keyword_name its)
keyword_field (keyword.Entry Cell) = record { some = omega arith; marks = refl }
keyword_field (keyword.Entry In) = record { some = omega arith; marks = refl }
keyword_field (keyword.Entry Out) = record { some = omega arith; marks = refl }
keyword_field keyword.Row = record { some = omega arith; marks = refl }
keyword_field keyword.End = record { some = omega arith; marks = refl }

count_field : (text : List ℕ) (number : ℕ) → IsDecimal 5 text number → IsField text
count_field text number is = number_field 10 5 text number (omega arith) is

place_field : (text : List ℕ) (address : ℕ) → Writes 8 4 text address → IsField text
place_field text address is = writes_field 8 4 text address (omega arith) (omega arith) is

-- ---- from the fields that are cut to what a line states

module _ (line : List ℕ) where
  entry_states : (table : Table) (its : Entry) → next_field line ≡ table_name table → IsEntry (behind_field line) its → States line (Scaled table its)
  entry_states table its named is =
      let place = place_field (next_field (behind_field line)) its.address is.address_is in
      let number = scale_field (next_field (behind_field (behind_field line))) its.scale is.scale_is in
      record {
        place = next_field (behind_field line);
        number = next_field (behind_field (behind_field line));
        address_is = is.address_is;
        scale_is = is.scale_is;
        fields = (cut_standing line (table_name table ∷ next_field (behind_field line) ∷ next_field (behind_field (behind_field line)) ∷ [])
            ((keyword_field (keyword.Entry table)).some, (place.some, (number.some, tt))) (named, (refl, (refl, is.ends)))).1;
      }

  row_states : (its : RowEntry) → next_field line ≡ codes "ROW" → IsRowEntry (behind_field line) its → States line (Tagged its)
  row_states its named is =
      let row = count_field (next_field (behind_field line)) its.row is.row_is in
      let a = row_tag_field (next_field (behind_field (behind_field line))) its.tags.a is.a_is in
      let q = row_tag_field (next_field (behind_field (behind_field (behind_field line)))) its.tags.q is.q_is in
      record {
        row = next_field (behind_field line);
        a = next_field (behind_field (behind_field line));
        q = next_field (behind_field (behind_field (behind_field line)));
        row_is = is.row_is;
        a_is = is.a_is;
        q_is = is.q_is;
        fields = (cut_standing line
            (codes "ROW" ∷ next_field (behind_field line) ∷ next_field (behind_field (behind_field line)) ∷ next_field (behind_field (behind_field (behind_field line))) ∷ [])
            ((keyword_field keyword.Row).some, (row.some, (a.some, (q.some, tt)))) (named, (refl, (refl, (refl, is.ends))))).1;
      }

  end_states : next_field line ≡ codes "END" → AreBlanks (behind_field line) → States line End
  end_states named blank = (cut_standing line (codes "END" ∷ []) ((keyword_field keyword.End).some, tt) (named, blank)).1

  -- the name of a line and the text after it are those of what it states
  abbrev pub AreFields : ScaleLine → Type 0
  AreFields its = (name : Keyword) × (keyword_name name ≡ next_field line) × AreOperands name (behind_field line) its

  pub fields_state : (name : Keyword) (its : ScaleLine) → keyword_name name ≡ next_field line → AreOperands name (behind_field line) its → States line its
  fields_state (keyword.Entry table) its named is = rw is.2 (entry_states table is.0 (sym named) is.1)
  fields_state keyword.Row its named is = rw is.2 (row_states is.0 (sym named) is.1)
  fields_state keyword.End its named is = rw is.1 (end_states (sym named) is.0)

  -- ---- and back

  pub state_fields : (its : ScaleLine) → States line its → AreFields its
  state_fields (Scaled table its) is =
      let cut = standing_cut line (table_name table ∷ is.place ∷ is.number ∷ [])
      (keyword_field (keyword.Entry table), (place_field is.place its.address is.address_is, (scale_field is.number its.scale is.scale_is, tt))) is.fields in
      (keyword.Entry table, sym cut.0, (its, record { address_is = rw cut.1.0 is.address_is; scale_is = rw cut.1.1.0 is.scale_is; ends = cut.1.1.1 }, refl))
  state_fields (Tagged its) is =
      let cut = standing_cut line (codes "ROW" ∷ is.row ∷ is.a ∷ is.q ∷ [])
      (keyword_field keyword.Row, (count_field is.row its.row is.row_is, (row_tag_field is.a its.tags.a is.a_is, (row_tag_field is.q its.tags.q is.q_is, tt)))) is.fields in (
        keyword.Row,
        sym cut.0,
        (its, record { row_is = rw cut.1.0 is.row_is; a_is = rw cut.1.1.0 is.a_is; q_is = rw cut.1.1.1.0 is.q_is; ends = cut.1.1.1.1 }, refl),
      )
  state_fields End is = let cut = standing_cut line (codes "END" ∷ []) (keyword_field keyword.End, tt) is in (keyword.End, sym cut.0, (cut.1, refl))

-- ---- what a call finds, as the statement that is made of it

pub none_some : {A : Type 0} (x : A) → ◌≡◌ {A = Option A} None (Some x) → ⊥
none_some x same = absurd cc

-- ---- a line states one thing at most

letter : {one other : List ℕ} → one ≡ other → get_or one 0 0 ≡ get_or other 0 0
letter same = ap (λ (l : List ℕ). get_or l 0 0) same

one_keyword : (one other : Keyword) → keyword_name one ≡ keyword_name other → one ≡ other
one_keyword (keyword.Entry Cell) (keyword.Entry Cell) same = refl
one_keyword (keyword.Entry Cell) (keyword.Entry In) same = absurd (omega (arith, letter same))
one_keyword (keyword.Entry Cell) (keyword.Entry Out) same = absurd (omega (arith, letter same))
one_keyword (keyword.Entry Cell) keyword.Row same = absurd (omega (arith, letter same))
one_keyword (keyword.Entry Cell) keyword.End same = absurd (omega (arith, letter same))
one_keyword (keyword.Entry In) (keyword.Entry Cell) same = absurd (omega (arith, letter same))
one_keyword (keyword.Entry In) (keyword.Entry In) same = refl
one_keyword (keyword.Entry In) (keyword.Entry Out) same = absurd (omega (arith, letter same))
one_keyword (keyword.Entry In) keyword.Row same = absurd (omega (arith, letter same))
one_keyword (keyword.Entry In) keyword.End same = absurd (omega (arith, letter same))
one_keyword (keyword.Entry Out) (keyword.Entry Cell) same = absurd (omega (arith, letter same))
one_keyword (keyword.Entry Out) (keyword.Entry In) same = absurd (omega (arith, letter same))
one_keyword (keyword.Entry Out) (keyword.Entry Out) same = refl
one_keyword (keyword.Entry Out) keyword.Row same = absurd (omega (arith, letter same))
one_keyword (keyword.Entry Out) keyword.End same = absurd (omega (arith, letter same))
one_keyword keyword.Row (keyword.Entry Cell) same = absurd (omega (arith, letter same))
one_keyword keyword.Row (keyword.Entry In) same = absurd (omega (arith, letter same))
one_keyword keyword.Row (keyword.Entry Out) same = absurd (omega (arith, letter same))
one_keyword keyword.Row keyword.Row same = refl
one_keyword keyword.Row keyword.End same = absurd (omega (arith, letter same))
one_keyword keyword.End (keyword.Entry Cell) same = absurd (omega (arith, letter same))
one_keyword keyword.End (keyword.Entry In) same = absurd (omega (arith, letter same))
one_keyword keyword.End (keyword.Entry Out) same = absurd (omega (arith, letter same))
one_keyword keyword.End keyword.Row same = absurd (omega (arith, letter same))
one_keyword keyword.End keyword.End same = refl

entry_of : ℕ → ℤ → Entry
entry_of address scale = record { address = address; scale = scale }

one_entry : (text : List ℕ) (one other : Entry) → IsEntry text one → IsEntry text other → one ≡ other
unfolding entry_of
one_entry text one other is so =
    ap (λ (address : ℕ). entry_of address one.scale) (sym is.address_is.value ∙ so.address_is.value)
    ∙ ap (λ (scale : ℤ). entry_of other.address scale) (one_scale (next_field (behind_field text)) one.scale other.scale is.scale_is so.scale_is)

row_of : ℕ → RowTag → RowTag → RowEntry
row_of row a q = record { row = row; tags = record { a = a; q = q } }

one_row : (text : List ℕ) (one other : RowEntry) → IsRowEntry text one → IsRowEntry text other → one ≡ other
unfolding row_of
one_row text one other is so =
    ap (λ (row : ℕ). row_of row one.tags.a one.tags.q) (is.row_is.value ∙ sym so.row_is.value)
    ∙ ap (λ (a : RowTag). row_of other.row a one.tags.q) (one_row_tag (next_field (behind_field text)) one.tags.a other.tags.a is.a_is so.a_is)
    ∙ ap (λ (q : RowTag). row_of other.row other.tags.a q) (one_row_tag (next_field (behind_field (behind_field text))) one.tags.q other.tags.q is.q_is so.q_is)

-- what the fields of a text state, where nothing but blanks stands after them
module _ (text rest : List ℕ) (found : RowEntry) (blank : Bool) (result : Option RowEntry) (is : result ≡ then_some blank found) (told : blank ≡ list_all is_blank rest)
    (has : AreBlanks rest → IsRowEntry text found) where
  pub row_found_there : IfSome result (IsRowEntry text)
  row_found_there = rw is (by_test blank told)
    where
      by_test : (test : Bool) → test ≡ list_all is_blank rest → IfSome (then_some test found) (IsRowEntry text)
      by_test true same = has (sym same)
      by_test false other = tt

  pub row_alone : (AreBlanks (behind_field (behind_field (behind_field text))) → AreBlanks rest) → (its : RowEntry) → IsRowEntry text its → result ≡ Some its
  row_alone ends its also =
      let blanks = ends also.ends in
      rw (is, told ∙ blanks) (ap (λ (entry : RowEntry). Some entry) (one_row text found its (has blanks) also))

one_of_keyword : (name : Keyword) (text : List ℕ) (one other : ScaleLine) → AreOperands name text one → AreOperands name text other → one ≡ other
one_of_keyword (keyword.Entry table) text one other is so =
    is.2 ∙ ap (λ (its : Entry). Scaled table its) (one_entry text is.0 so.0 is.1 so.1) ∙ sym so.2
one_of_keyword keyword.Row text one other is so = is.2 ∙ ap (λ (its : RowEntry). Tagged its) (one_row text is.0 so.0 is.1 so.1) ∙ sym so.2
one_of_keyword keyword.End text one other is so = is.1 ∙ sym so.1

-- what stands after a keyword, as it is found
pub entry_operands : (name : Keyword) (table : Table) (text : List ℕ) (its : Entry) → name ≡ keyword.Entry table → IsEntry text its → AreOperands name text (Scaled table its)
entry_operands name table text its is found = rw is (its, found, refl)

pub row_operands : (name : Keyword) (text : List ℕ) (its : RowEntry) → name ≡ keyword.Row → IsRowEntry text its → AreOperands name text (Tagged its)
row_operands name text its is found = rw is (its, found, refl)

pub one_operands : (name : Keyword) (text : List ℕ) (found : ScaleLine) → AreOperands name text found → (its : ScaleLine) → AreOperands name text its → Some found ≡ Some its
one_operands name text found is its also = ap (λ (line : ScaleLine). Some line) (one_of_keyword name text found its is also)

-- and nothing, where nothing is found
pub no_entry : (name : Keyword) (table : Table) (text : List ℕ) → name ≡ keyword.Entry table → ((entry : Entry) → IsEntry text entry → ◌≡◌ {A = Option Entry} None (Some entry))
    → (its : ScaleLine) → AreOperands name text its → ⊥
no_entry name table text is none its are = let has = rw is at are in none_some has.0 (none has.0 has.1)

pub no_row : (name : Keyword) (text : List ℕ) → name ≡ keyword.Row → ((entry : RowEntry) → IsRowEntry text entry → ◌≡◌ {A = Option RowEntry} None (Some entry))
    → (its : ScaleLine) → AreOperands name text its → ⊥
no_row name text is none its are = let has = rw is at are in none_some has.0 (none has.0 has.1)

-- what a line states stands after its keyword
pub by_keyword : (line : List ℕ) (name : Keyword) → keyword_name name ≡ next_field line → (its : ScaleLine) → States line its → AreOperands name (behind_field line) its
by_keyword line name named its is =
    let has = state_fields line its is in
    let same : has.0 ≡ name = one_keyword has.0 name (has.1 ∙ sym named) in
    rw same at has.2

pub by_no_keyword : (line field : List ℕ) → field ≡ next_field line → ((name : Keyword) → keyword_name name ≡ field → ◌≡◌ {A = Option Keyword} None (Some name))
    → (its : ScaleLine) → States line its → ⊥
by_no_keyword line field is none its states = let has = state_fields line its states in none_some has.0 (none has.0 (has.1 ∙ sym is))

pub one_statement : (line : List ℕ) (one other : ScaleLine) → States line one → States line other → one ≡ other
one_statement line one other is so =
    let first = state_fields line one is in
    let second = state_fields line other so in
    let name : second.0 ≡ first.0 = one_keyword second.0 first.0 (second.1 ∙ sym first.1) in
    one_of_keyword first.0 (behind_field line) one other first.2 (rw name at second.2)

-- ---- each line states something or nothing

blank_decided : (text : List ℕ) → Decided (AreBlanks text)
blank_decided text = decide_bool (list_all is_blank text)

entry_found : (text : List ℕ) → Found Entry (IsEntry text)
entry_found text = elim (written_found 4 (next_field text)) [
  | inr none ↦ inr (λ its is. none its.address is.address_is)
  | inl place ↦ elim (scale_found (next_field (behind_field text))) [
    | inr none ↦ inr (λ its is. none its.scale is.scale_is)
    | inl number ↦ elim (blank_decided (behind_field (behind_field text))) [
      | inr more ↦ inr (λ its is. more is.ends)
      | inl ends ↦ inl (record { address = place.it; scale = number.0 }, record { address_is = place.is; scale_is = number.1; ends = ends })
    ]
  ]
]

row_found : (text : List ℕ) → Found RowEntry (IsRowEntry text)
row_found text = elim (number_found 10 5 (next_field text)) [
  | inr none ↦ inr (λ its is. none its.row is.row_is)
  | inl row ↦ elim (row_tag_found (next_field (behind_field text))) [
    | inr none ↦ inr (λ its is. none its.tags.a is.a_is)
    | inl a ↦ elim (row_tag_found (next_field (behind_field (behind_field text)))) [
      | inr none ↦ inr (λ its is. none its.tags.q is.q_is)
      | inl q ↦ elim (blank_decided (behind_field (behind_field (behind_field text)))) [
        | inr more ↦ inr (λ its is. more is.ends)
        | inl ends ↦ inl (record { row = row.0; tags = record { a = a.0; q = q.0 } }, record { row_is = row.1; a_is = a.1; q_is = q.1; ends = ends })
      ]
    ]
  ]
]

operands_found : (name : Keyword) (text : List ℕ) → Found ScaleLine (AreOperands name text)
operands_found (keyword.Entry table) text = elim (entry_found text) [
  | inl found ↦ inl (Scaled table found.0, (found.0, found.1, refl))
  | inr none ↦ inr (λ its is. none is.0 is.1)
]
operands_found keyword.Row text = elim (row_found text) [
  | inl found ↦ inl (Tagged found.0, (found.0, found.1, refl))
  | inr none ↦ inr (λ its is. none is.0 is.1)
]
operands_found keyword.End text = elim (blank_decided text) [
  | inl ends ↦ inl (End, (ends, refl))
  | inr more ↦ inr (λ its is. more is.0)
]

-- a text is one of the keywords, or none
keyword_found : (text : List ℕ) → Found Keyword (λ name. keyword_name name ≡ text)
keyword_found text = elim (decide_list (codes "CELL") text) [
  | inl is ↦ inl (keyword.Entry Cell, is)
  | inr no_cell ↦ elim (decide_list (codes "IN") text) [
    | inl is ↦ inl (keyword.Entry In, is)
    | inr no_in ↦ elim (decide_list (codes "OUT") text) [
      | inl is ↦ inl (keyword.Entry Out, is)
      | inr no_out ↦ elim (decide_list (codes "ROW") text) [
        | inl is ↦ inl (keyword.Row, is)
        | inr no_row ↦ elim (decide_list (codes "END") text) [
          | inl is ↦ inl (keyword.End, is)
          | inr no_end ↦ inr (λ name is. none no_cell no_in no_out no_row no_end name is)
        ]
      ]
    ]
  ]
]
  where
    none : (codes "CELL" ≡ text → ⊥) → (codes "IN" ≡ text → ⊥) → (codes "OUT" ≡ text → ⊥) → (codes "ROW" ≡ text → ⊥) → (codes "END" ≡ text → ⊥)
        → (name : Keyword) → keyword_name name ≡ text → ⊥
    none no_cell no_in no_out no_row no_end (keyword.Entry Cell) is = no_cell is
    none no_cell no_in no_out no_row no_end (keyword.Entry In) is = no_in is
    none no_cell no_in no_out no_row no_end (keyword.Entry Out) is = no_out is
    none no_cell no_in no_out no_row no_end keyword.Row is = no_row is
    none no_cell no_in no_out no_row no_end keyword.End is = no_end is

pub some_statement : (line : List ℕ) → Found ScaleLine (States line)
some_statement line = elim (keyword_found (next_field line)) [
  | inr none ↦ inr (λ its is. (let fields = state_fields line its is in none fields.0 fields.1))
  | inl name ↦ elim (operands_found name.0 (behind_field line)) [
    | inl found ↦ inl (found.0, fields_state line name.0 found.0 name.1 found.1)
    | inr none ↦ inr (λ its is. no_operands name.0 name.1 none its is)
  ]
]
  where
    no_operands : (name : Keyword) → keyword_name name ≡ next_field line → ((its : ScaleLine) → AreOperands name (behind_field line) its → ⊥)
        → (its : ScaleLine) → States line its → ⊥
    no_operands name named none its is =
        let fields = state_fields line its is in
        let same : fields.0 ≡ name = one_keyword fields.0 name (fields.1 ∙ sym named) in
        none its (rw same at fields.2)

-- ---- an idle line states nothing

sign_first : (line : List ℕ) → slice_index line 0 ≡ 35 → get_or (next_field line) 0 0 ≡ 35
sign_first [] is = absurd (omega arith)
sign_first (b ∷ line) is = first_byte b line (rw is refl) ∙ is

some_first : (name : Keyword) → (keyword_name name ≡ [] → ⊥) × (get_or (keyword_name name) 0 0 ≡ 35 → ⊥)
some_first (keyword.Entry Cell) = (λ none. absurd cc, λ sign. absurd (omega (arith, sign)))
some_first (keyword.Entry In) = (λ none. absurd cc, λ sign. absurd (omega (arith, sign)))
some_first (keyword.Entry Out) = (λ none. absurd cc, λ sign. absurd (omega (arith, sign)))
some_first keyword.Row = (λ none. absurd cc, λ sign. absurd (omega (arith, sign)))
some_first keyword.End = (λ none. absurd cc, λ sign. absurd (omega (arith, sign)))

pub idle_states_nothing : (line : List ℕ) (its : ScaleLine) → AreBlanks line ⊎ (slice_index line 0 ≡ 35) → States line its → ⊥
idle_states_nothing line its (inl blank) states =
    let fields = state_fields line its states in
    (some_first fields.0).0 (fields.1 ∙ (blanks_none line blank).0)
idle_states_nothing line its (inr sign) states =
    let fields = state_fields line its states in
    (some_first fields.0).1 (ap (λ (name : List ℕ). get_or name 0 0) fields.1 ∙ sign_first line sign)
