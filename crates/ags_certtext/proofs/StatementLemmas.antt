-- What a line states, and what stands after its keyword.
--
-- The crates above may cite stated_is, which is behind the law spelled_statements_are_lawful, and row_states and row_stands, which are
-- behind the law row_fields_have_one_reading.
use Rattle.std.proofs.Common.{◌≡◌, ℕ, ◌<◌, ◌^◌, ◌⊎◌, Bool, List, [], ◌∷◌, ◌++◌, length, slice_index, get_or, Option, Some, refl, sym, ap, ◌∙◌, inl, inr, arith}
use Rattle.std.specs.Prelude.{codes}
use Rattle.std.specs.Option.{option_map}
use Rattle.std.proofs.lemmas.Int.Digits.{digits_value-lt}
use Rattle.ags_text.specs.Field.{AreBlanks, IsField, AreFields, AreCut, next_field, behind_field}
use Rattle.ags_text.specs.Numeral.{Writes}
use Rattle.ags_text.proofs.FieldLaws.{standing_cut, writes_field, blanks_none, first_byte}
use Rattle.ags_domain.specs.declared.values.Value.{Value}
use Rattle.ags_row.specs.declared.links.Link.{Link}
use Rattle.ags_certtext.specs.declared.keywords.Keyword.{Keyword}
use Rattle.ags_certtext.specs.declared.keywords.Keyword.TheVariants as keyword
use Rattle.ags_certtext.specs.declared.statements.Entry.{Entry}
use Rattle.ags_certtext.specs.declared.statements.RowLine.{RowLine}
use Rattle.ags_certtext.specs.declared.statements.Statement.{Statement}
use Rattle.ags_certtext.specs.declared.statements.Statement.TheVariants.{Start, Entry as EntryOf, May, Row, Linked, End}
use Rattle.ags_certtext.specs.Statement.{IsStatement}
use Rattle.ags_certtext.specs.Kind.{table_name}
use Rattle.ags_certtext.specs.Spelling.{StatesPlace, StatesEntry, StatesRowBehind, StatesLink, States, flag_digits}
use Rattle.ags_certtext.specs.Front.{AreAtFront, IsPlace}
use Rattle.ags_certtext.specs.Operand.{IsEntry, IsRow, IsLinkText, keyword_name, AreOperands}
use Rattle.ags_certtext.proofs.KeywordLemmas.{keyword_field, some_first}
use Rattle.ags_certtext.proofs.FrontLemmas.{front_cut, cut_front, fields_append, cut_stands, value_fields, signed_field, flags_field}

-- an entry is its parts, and so is a row
pub entry_same : (entry : Entry) (address : ℕ) (value : Option Value) → Some address ≡ Some entry.address → value ≡ entry.value
    → Some (record { address = address; value = value }) ≡ Some entry
entry_same entry address value place same = let at : address ≡ entry.address = cc in rw (at, same) refl

pub row_same : (row : RowLine) (location : ℕ) (a q : Option Value) (x v : List Bool) → Some location ≡ Some row.location → a ≡ row.a → q ≡ row.q → x ≡ row.x → v ≡ row.v
    → Some (record { location = location; a = a; q = q; x = x; v = v }) ≡ Some row
row_same row location a q x v place same_a same_q same_x same_v = let at : location ≡ row.location = cc in rw (at, same_a, same_q, same_x, same_v) refl

-- ---- what stands after a keyword makes a statement

place_states : (name line : List ℕ) (location : ℕ) → IsField name → next_field line ≡ name → IsPlace (behind_field line) location → StatesPlace name line location
place_states name line location field named is = record {
  place = next_field (behind_field line);
  location_is = is.location_is;
  fields = cut_stands line (name ∷ next_field (behind_field line) ∷ []) (field, (writes_field 8 4 _ location (omega arith) (omega arith) is.location_is, tt)) (named, (refl, is.ends));
}

entry_states : (name line : List ℕ) (entry : Entry) → IsField name → next_field line ≡ name → IsEntry (behind_field line) entry → StatesEntry name line entry
entry_states name line entry field named is = record {
  place = next_field (behind_field line);
  value = is.value_is.taken ++ [];
  address_is = is.address_is;
  value_is = rw (Rattle.std.proofs.lemmas.List.append-nil is.value_is.taken) is.value_is.value_is;
  fields = cut_stands line (name ∷ next_field (behind_field line) ∷ (is.value_is.taken ++ []))
      (field, (writes_field 8 4 _ entry.address (omega arith) (omega arith) is.address_is, fields_append is.value_is.taken [] (value_fields is.value_is.taken entry.value is.value_is.value_is) tt))
      (named, (refl, front_cut is.value_is.taken [] (behind_field (behind_field line)) is.rest is.value_is.front is.ends));
}

link_states : (line : List ℕ) (link : Link) → next_field line ≡ codes "LINK" → IsLinkText (behind_field line) link → StatesLink line link
link_states line link named is =
    let place = next_field (behind_field line) in
    let offset = next_field (behind_field (behind_field line)) in
    record {
      place = place;
      offset = offset;
      address_is = is.address_is;
      offset_is = is.offset_is.is;
      within = is.offset_is.within;
      fields = cut_stands line (codes "LINK" ∷ place ∷ offset ∷ [])
          (keyword_field keyword.Link, (writes_field 8 4 place link.address (omega arith) (omega arith) is.address_is, (signed_field offset link.offset is.offset_is.is, tt)))
          (named, (refl, (refl, is.ends)));
    }

-- the fields of a row after others
pub row_states : (front : List (List ℕ)) (line text : List ℕ) (row : RowLine) → AreFields front → AreAtFront front line text → IsRow text row → StatesRowBehind front line row
row_states front line text row front_are at_front is =
    let a = is.a_is.value_is in
    let q = is.q_is.value_is in
    let x = is.flags_are.x_is in
    let v = is.flags_are.v_is in
    let flags : List (List ℕ) = codes "X" ∷ flag_digits 48 row.x ∷ codes "V" ∷ flag_digits 48 row.v ∷ [] in
    let behind_q : List (List ℕ) = codes "Q" ∷ (q.taken ++ flags) in
    let all : List (List ℕ) = next_field text ∷ codes "A" ∷ (a.taken ++ behind_q) in
    let flags_are : AreFields flags = (
      record { some = omega arith; marks = refl },
      (flags_field row.x x.flags_are.some, (record { some = omega arith; marks = refl }, (flags_field row.v v.flags_are.some, tt))),
    ) in
    let flags_cut : AreCut flags is.behind_q = (x.named, (x.flags_are.digits, (v.named, (v.flags_are.digits, is.flags_are.ends)))) in
    let q_are : AreFields behind_q = (record { some = omega arith; marks = refl }, fields_append q.taken flags (value_fields q.taken row.q q.value_is) flags_are) in
    let q_cut : AreCut behind_q is.behind_a = (is.q_is.named, front_cut q.taken flags (behind_field is.behind_a) is.behind_q q.front flags_cut) in
    let all_are : AreFields all = (
      writes_field 8 4 _ row.location (omega arith) (omega arith) is.location_is,
      (record { some = omega arith; marks = refl }, fields_append a.taken behind_q (value_fields a.taken row.a a.value_is) q_are),
    ) in
    let all_cut : AreCut all text = (refl, (is.a_is.named, front_cut a.taken behind_q (behind_field (behind_field text)) is.behind_a a.front q_cut)) in
    record {
      place = next_field text;
      a = a.taken;
      q = q.taken;
      location_is = is.location_is;
      a_is = a.value_is;
      q_is = q.value_is;
      indices = x.flags_are.count_is;
      indicators = v.flags_are.count_is;
      some_index = x.flags_are.some;
      some_indicator = v.flags_are.some;
      fields = cut_stands line (front ++ all) (fields_append front all front_are all_are) (front_cut front all line text at_front all_cut);
    }

pub operands_state : (its : Keyword) (line : List ℕ) (statement : Statement) → keyword_name its ≡ next_field line → AreOperands its (behind_field line) statement → States line statement
operands_state keyword.Start line statement named is = rw is.2 (place_states (codes "START") line is.0 (keyword_field keyword.Start) (sym named) is.1)
operands_state (keyword.Entry table) line statement named is = rw is.2 (entry_states (table_name table) line is.0 (keyword_field (keyword.Entry table)) (sym named) is.1)
operands_state keyword.May line statement named is = rw is.2 (place_states (codes "MAY") line is.0 (keyword_field keyword.May) (sym named) is.1)
operands_state keyword.Row line statement named is = rw is.2 (row_states (codes "ROW" ∷ []) line (behind_field line) is.0 (keyword_field keyword.Row, tt) (sym named, refl) is.1)
operands_state keyword.Link line statement named is = rw is.2 (link_states line is.0 (sym named) is.1)
operands_state keyword.End line statement named is = rw is.1 (cut_stands line (codes "END" ∷ []) (keyword_field keyword.End, tt) (sym named, is.0))

-- ---- and back

place_stands : (name line : List ℕ) (location : ℕ) → IsField name → StatesPlace name line location → (name ≡ next_field line) × IsPlace (behind_field line) location
place_stands name line location field is =
    let cut = standing_cut line (name ∷ is.place ∷ []) (field, (writes_field 8 4 is.place location (omega arith) (omega arith) is.location_is, tt)) is.fields in
    (sym cut.0, record { location_is = rw cut.1.0 is.location_is; ends = cut.1.1 })

entry_stands : (name line : List ℕ) (entry : Entry) → IsField name → StatesEntry name line entry → (name ≡ next_field line) × IsEntry (behind_field line) entry
entry_stands name line entry field is =
    let same : is.value ++ [] ≡ is.value = Rattle.std.proofs.lemmas.List.append-nil is.value in
    let cut = standing_cut line (name ∷ is.place ∷ is.value)
    (field, (writes_field 8 4 is.place entry.address (omega arith) (omega arith) is.address_is, value_fields is.value entry.value is.value_is)) is.fields in
    let split = cut_front is.value [] (behind_field (behind_field line)) (rw same cut.1.1) in (
      sym cut.0,
      record {
        address_is = rw cut.1.0 is.address_is;
        rest = split.rest;
        value_is = record { taken = is.value; front = split.front; value_is = is.value_is };
        ends = split.are;
      },
    )

link_stands : (line : List ℕ) (link : Link) → StatesLink line link → (codes "LINK" ≡ next_field line) × IsLinkText (behind_field line) link
link_stands line link is =
    let cut = standing_cut line (codes "LINK" ∷ is.place ∷ is.offset ∷ [])
    (keyword_field keyword.Link, (writes_field 8 4 is.place link.address (omega arith) (omega arith) is.address_is, (signed_field is.offset link.offset is.offset_is, tt))) is.fields in (
      sym cut.0,
      record {
        address_is = rw cut.1.0 is.address_is;
        offset_is = record { is = rw cut.1.1.0 is.offset_is; within = is.within };
        ends = cut.1.1.1;
      },
    )

-- the fields of a row stand after others
pub record RowStands (front : List (List ℕ)) (line : List ℕ) (row : RowLine) : Type 0 where
  pub text : List ℕ
  pub at_front : AreAtFront front line text
  pub is_row : IsRow text row

pub row_stands : (front : List (List ℕ)) (line : List ℕ) (row : RowLine) → AreFields front → StatesRowBehind front line row → RowStands front line row
row_stands front line row front_are is =
    let flags : List (List ℕ) = codes "X" ∷ flag_digits 48 row.x ∷ codes "V" ∷ flag_digits 48 row.v ∷ [] in
    let behind_q : List (List ℕ) = codes "Q" ∷ (is.q ++ flags) in
    let all : List (List ℕ) = is.place ∷ codes "A" ∷ (is.a ++ behind_q) in
    let flags_are : AreFields flags = (
      record { some = omega arith; marks = refl },
      (flags_field row.x is.some_index, (record { some = omega arith; marks = refl }, (flags_field row.v is.some_indicator, tt))),
    ) in
    let q_are : AreFields behind_q = (record { some = omega arith; marks = refl }, fields_append is.q flags (value_fields is.q row.q is.q_is) flags_are) in
    let all_are : AreFields all = (
      writes_field 8 4 is.place row.location (omega arith) (omega arith) is.location_is,
      (record { some = omega arith; marks = refl }, fields_append is.a behind_q (value_fields is.a row.a is.a_is) q_are),
    ) in
    let whole = cut_front front all line (standing_cut line (front ++ all) (fields_append front all front_are all_are) is.fields) in
    let a = cut_front is.a behind_q (behind_field (behind_field whole.rest)) whole.are.1.1 in
    let q = cut_front is.q flags (behind_field a.rest) a.are.1 in
    record {
      text = whole.rest;
      at_front = whole.front;
      is_row = record {
        location_is = rw whole.are.0 is.location_is;
        behind_a = a.rest;
        a_is = record { named = whole.are.1.0; value_is = record { taken = is.a; front = a.front; value_is = is.a_is } };
        behind_q = q.rest;
        q_is = record { named = a.are.0; value_is = record { taken = is.q; front = q.front; value_is = is.q_is } };
        flags_are = record {
          x_is = record { named = q.are.0; flags_are = record { count_is = is.indices; some = is.some_index; digits = q.are.1.0 } };
          v_is = record { named = q.are.1.1.0; flags_are = record { count_is = is.indicators; some = is.some_indicator; digits = q.are.1.1.1.0 } };
          ends = q.are.1.1.1.1;
        };
      };
    }

-- the keyword of a line that makes a statement
pub record HasOperands (line : List ℕ) (statement : Statement) : Type 0 where
  pub its : Keyword
  pub named : keyword_name its ≡ next_field line
  pub are : AreOperands its (behind_field line) statement

pub state_operands : (line : List ℕ) (statement : Statement) → States line statement → HasOperands line statement
state_operands line (Start location) is = let stands = place_stands (codes "START") line location (keyword_field keyword.Start) is in record { its = keyword.Start; named = stands.0; are = (location, stands.1, refl) }
state_operands line (EntryOf table entry) is = let stands = entry_stands (table_name table) line entry (keyword_field (keyword.Entry table)) is in record { its = keyword.Entry table; named = stands.0; are = (entry, stands.1, refl) }
state_operands line (May location) is = let stands = place_stands (codes "MAY") line location (keyword_field keyword.May) is in record { its = keyword.May; named = stands.0; are = (location, stands.1, refl) }
state_operands line (Row row) is =
    let stands = row_stands (codes "ROW" ∷ []) line row (keyword_field keyword.Row, tt) is in
    record { its = keyword.Row; named = sym stands.at_front.0; are = (row, rw stands.at_front.1 stands.is_row, refl) }
state_operands line (Linked link) is = let stands = link_stands line link is in record { its = keyword.Link; named = stands.0; are = (link, stands.1, refl) }
state_operands line End is = let cut = standing_cut line (codes "END" ∷ []) (keyword_field keyword.End, tt) is in record { its = keyword.End; named = sym cut.0; are = (cut.1, refl) }

-- ---- a statement's addresses are those of the machine

place_below : (place : List ℕ) (number : ℕ) → Writes 8 4 place number → number < 4096
place_below place number is =
    let below : number < 8 ^ length place = rw (← is.value) (digits_value-lt 8 place is.digits) in
    let same : 8 ^ length place ≡ 4096 = ap (λ n. 8 ^ n) is.length in
    omega (arith, below, same)

pub stated_is : (line : List ℕ) (statement : Statement) → States line statement → IsStatement statement
stated_is line (Start location) is = place_below is.place location is.location_is
stated_is line (EntryOf table entry) is = place_below is.place entry.address is.address_is
stated_is line (May location) is = place_below is.place location is.location_is
stated_is line (Row row) is = record {
  location = place_below is.place row.location is.location_is;
  indices = is.indices;
  indicators = is.indicators;
  some_index = is.some_index;
  some_indicator = is.some_indicator;
}
stated_is line (Linked link) is = record { address = place_below is.place link.address is.address_is; offset = is.within }
stated_is line End is = tt

-- where one thing is found at most, one statement at most is made of what is found
pub made_only : {X : Type 0} {P : X → Type 0} {found : Option X} {statement : Statement} (make : X → Statement) → ((x : X) → P x → found ≡ Some x) → (x : X) × P x × (statement ≡ make x)
    → option_map make found ≡ Some statement
made_only make only is = rw (only is.0 is.1, is.2) refl

-- ---- a line that is skipped makes no statement

-- a line that begins with a number sign has it in its first field
sign_first : (line : List ℕ) → get_or line 0 0 ≡ 35 → get_or (next_field line) 0 0 ≡ 35
sign_first [] is = absurd (omega arith)
sign_first (b ∷ line) is = first_byte b line (rw is refl) ∙ is

pub idle_states_nothing : (line : List ℕ) (statement : Statement) → AreBlanks line ⊎ (slice_index line 0 ≡ 35) → States line statement → ⊥
idle_states_nothing line statement (inl blank) states =
    let has = state_operands line statement states in (some_first has.its).0 (has.named ∙ (blanks_none line blank).0)
idle_states_nothing line statement (inr sign) states =
    let has = state_operands line statement states in (some_first has.its).1 (ap (λ (name : List ℕ). get_or name 0 0) has.named ∙ sign_first line sign)
