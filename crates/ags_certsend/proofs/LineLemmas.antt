-- The line of each statement of a certificate spells it.
use Rattle.std.proofs.Common.{◌≡◌, ℕ, ◌+◌, ◌<◌, true, List, [], ◌∷◌, ◌++◌, length, Some, refl, sym, ap, subst, ◌∙◌, append_assoc, append-nil, codes, arith}
use Rattle.std.specs.Fmt.{signed_decimal}
use Rattle.ags_text.specs.Field.{Behind, HasFields}
use Rattle.ags_text.specs.Numeral.{octal4_text}
use Rattle.ags_text.proofs.NumeralLemmas.{writes}
use Rattle.ags_domain.specs.ValueText.{value_text}
use Rattle.ags_domain.specs.declared.values.Value.{Value}
use Rattle.ags_row.specs.Flag.{some_flag}
use Rattle.ags_row.specs.declared.links.Link.{Link}
use Rattle.ags_certtext.specs.Spelling.{flag_digits, is_offset, StatesPlace, StatesEntry, StatesRow, StatesLink, States}
use Rattle.ags_certtext.specs.Kind.{table_name}
use Rattle.ags_certtext.proofs.KeywordLemmas.{table_letters}
use Rattle.ags_certtext.specs.declared.statements.Entry.{Entry}
use Rattle.ags_certtext.specs.declared.statements.RowLine.{RowLine}
use Rattle.ags_certtext.specs.declared.statements.Statement.{Statement}
use Rattle.ags_certtext.specs.declared.statements.Statement.TheVariants.{Start, Entry as EntryOf, May, Row, Linked, End}
use Rattle.ags_certtext.specs.declared.kinds.Table.{Table}
use Rattle.ags_certsend.specs.Spelled.{entry_text, link_text, row_text, statement_text}
use Rattle.ags_certsend.proofs.ShownLemmas.{IsShown, shown-append, shown-weaker, octal_shown, flags_shown}
use Rattle.ags_certsend.proofs.ValueLemmas.{spaced, spaced-append, IsValueText, value_spelled, printed_offset}

-- ---- what a certificate in hand states

pub record IsGoodEntry (entry : Entry) : Type 0 where
  pub below : entry.address < 4096
  pub value : Value
  pub stated : entry.value ≡ Some value

pub record IsGoodRow (row : RowLine) : Type 0 where
  pub below : row.location < 4096
  pub a : Value
  pub q : Value
  pub a_is : row.a ≡ Some a
  pub q_is : row.q ≡ Some q
  pub indices : length row.x ≡ 8
  pub indicators : length row.v ≡ 2
  pub some_index : some_flag row.x ≡ true
  pub some_indicator : some_flag row.v ≡ true

pub record IsGoodLink (link : Link) : Type 0 where
  pub below : link.address < 4096
  pub offset : is_offset link.offset ≡ true

abbrev pub IsGood : Statement → Type 0
IsGood (Start location) = location < 4096
IsGood (EntryOf table entry) = IsGoodEntry entry
IsGood (May location) = location < 4096
IsGood (Row row) = IsGoodRow row
IsGood (Linked link) = IsGoodLink link
IsGood End = Unit {0}

-- ---- fields of a line

behind_spaced : (fields : List (List ℕ)) → Behind fields (spaced fields)
unfolding spaced
behind_spaced [] = refl
behind_spaced (field ∷ fields) = (32 ∷ [], spaced fields, record { some = omega arith; blanks = refl }, refl, behind_spaced fields)

has_spaced : (first : List ℕ) (fields : List (List ℕ)) → HasFields (first ++ spaced fields) (first ∷ fields)
has_spaced first fields = ([], spaced fields, refl, refl, behind_spaced fields)

-- ---- a line, and that it has no control characters

-- the line of a statement is spelled, and is shown in at most 300 bytes
pub record IsLine (line : List ℕ) (statement : Statement) : Type 0 where
  pub states : States line statement
  pub shown : IsShown 300 line

place_fields : (keyword : List ℕ) (location : ℕ) → spaced (octal4_text location ∷ []) ≡ codes " " ++ octal4_text location
unfolding spaced
place_fields keyword location = ap (λ (text : List ℕ). 32 ∷ text) (append-nil (octal4_text location))

place_line : (keyword : List ℕ) (location : ℕ) → location < 4096 → StatesPlace keyword (keyword ++ (codes " " ++ octal4_text location)) location
place_line keyword location below = record {
  place = octal4_text location;
  location_is = writes 8 4 location (omega arith) (omega arith) (omega (arith, below));
  fields = rw (place_fields keyword location) at (has_spaced keyword (octal4_text location ∷ []));
}

four_shown : (location : ℕ) → location < 4096 → IsShown 4 (octal4_text location)
four_shown location below = octal_shown 4 location (omega (arith, below))

-- an address and a value
entry_fields : (address : ℕ) (value : Value) (is : IsValueText value) → spaced (octal4_text address ∷ is.fields) ≡ codes " " ++ (octal4_text address ++ codes " " ++ value_text value)
unfolding spaced
entry_fields address value is = ap (λ (text : List ℕ). 32 ∷ (octal4_text address ++ text)) is.text ∙ ap (λ (text : List ℕ). 32 ∷ text) (sym (append_assoc (octal4_text address) (codes " ") (value_text value)))

entry_line : (keyword : List ℕ) (entry : Entry) → IsGoodEntry entry → StatesEntry keyword (keyword ++ (codes " " ++ entry_text entry)) entry
entry_line keyword entry good =
    let is = value_spelled good.value in
    record {
      place = octal4_text entry.address;
      value = is.fields;
      address_is = writes 8 4 entry.address (omega arith) (omega arith) (let below = good.below in omega (arith, below));
      value_is = rw good.stated is.states;
      fields = rw good.stated (rw (entry_fields entry.address good.value is) at (has_spaced keyword (octal4_text entry.address ∷ is.fields)));
    }

entry_shown : (entry : Entry) → IsGoodEntry entry → IsShown (4 + 1 + 117) (entry_text entry)
entry_shown entry good =
    rw good.stated (shown-append (4 + 1) 117 (octal4_text entry.address ++ codes " ") (value_text good.value)
    (shown-append 4 1 (octal4_text entry.address) (codes " ") (four_shown entry.address good.below) (record { plain = refl; short = omega arith })) (value_spelled good.value).shown)

-- an address and an offset
link_fields : (link : Link) → spaced (octal4_text link.address ∷ signed_decimal link.offset ∷ []) ≡ codes " " ++ link_text link
unfolding spaced
link_fields link = ap (λ (text : List ℕ). 32 ∷ (octal4_text link.address ++ (32 ∷ text))) (append-nil (signed_decimal link.offset))
    ∙ ap (λ (text : List ℕ). 32 ∷ text) (sym (append_assoc (octal4_text link.address) (codes " ") (signed_decimal link.offset)))

link_line : (link : Link) → IsGoodLink link → StatesLink (codes "LINK " ++ link_text link) link
link_line link good = record {
  place = octal4_text link.address;
  offset = signed_decimal link.offset;
  address_is = writes 8 4 link.address (omega arith) (omega arith) (let below = good.below in omega (arith, below));
  offset_is = (printed_offset link.offset good.offset).spelled;
  within = good.offset;
  fields = rw (link_fields link) at (has_spaced (codes "LINK") (octal4_text link.address ∷ signed_decimal link.offset ∷ []));
}

link_shown : (link : Link) → IsGoodLink link → IsShown (4 + 1 + 7) (link_text link)
link_shown link good =
    shown-append (4 + 1) 7 (octal4_text link.address ++ codes " ") (signed_decimal link.offset)
    (shown-append 4 1 (octal4_text link.address) (codes " ") (four_shown link.address good.below) (record { plain = refl; short = omega arith }))
    (printed_offset link.offset good.offset).shown

-- a row
flag_fields : RowLine → List (List ℕ)
flag_fields row = codes "X" ∷ flag_digits 48 row.x ∷ codes "V" ∷ flag_digits 48 row.v ∷ []

flags_spaced : (row : RowLine) → spaced (flag_fields row) ≡ codes " X " ++ (flag_digits 48 row.x ++ (codes " V " ++ flag_digits 48 row.v))
unfolding spaced flag_fields
flags_spaced row = ap (λ (text : List ℕ). codes " X " ++ (flag_digits 48 row.x ++ (codes " V " ++ text))) (append-nil (flag_digits 48 row.v))

q_spaced : (row : RowLine) (q : Value) (is : IsValueText q) → spaced (codes "Q" ∷ (is.fields ++ flag_fields row))
    ≡ codes " Q " ++ (value_text q ++ (codes " X " ++ (flag_digits 48 row.x ++ (codes " V " ++ flag_digits 48 row.v))))
unfolding spaced
q_spaced row q is = rw (spaced-append is.fields (flag_fields row), is.text, flags_spaced row) refl

row_spaced : (row : RowLine) (a q : Value) (a_is : IsValueText a) (q_is : IsValueText q)
    → spaced (octal4_text row.location ∷ codes "A" ∷ (a_is.fields ++ (codes "Q" ∷ (q_is.fields ++ flag_fields row))))
    ≡ codes " " ++ (octal4_text row.location ++ (codes " A " ++ (value_text a ++ (codes " Q " ++ (value_text q ++ (codes " X " ++ (flag_digits 48 row.x ++ (codes " V " ++ flag_digits 48 row.v))))))))
unfolding spaced
row_spaced row a q a_is q_is =
    let behind : spaced (a_is.fields ++ (codes "Q" ∷ (q_is.fields ++ flag_fields row)))
    ≡ codes " " ++ (value_text a ++ (codes " Q " ++ (value_text q ++ (codes " X " ++ (flag_digits 48 row.x ++ (codes " V " ++ flag_digits 48 row.v))))))
    = spaced-append a_is.fields (codes "Q" ∷ (q_is.fields ++ flag_fields row)) ∙ rw (a_is.text, q_spaced row q q_is) refl in
    ap (λ (text : List ℕ). codes " " ++ (octal4_text row.location ++ (codes " A" ++ text))) behind

-- its text, one part after the other
row_parts : (row : RowLine) (a q : Value) → row.a ≡ Some a → row.q ≡ Some q → row_text row
    ≡ octal4_text row.location ++ (codes " A " ++ (value_text a ++ (codes " Q " ++ (value_text q ++ (codes " X " ++ (flag_digits 48 row.x ++ (codes " V " ++ flag_digits 48 row.v)))))))
row_parts row a q a_is q_is = rw (a_is, q_is) (simp append_assoc refl)

row_line : (row : RowLine) → IsGoodRow row → StatesRow (codes "ROW " ++ row_text row) row
unfolding flag_fields
row_line row good =
    let a = value_spelled good.a in
    let q = value_spelled good.q in
    record {
      place = octal4_text row.location;
      a = a.fields;
      q = q.fields;
      location_is = writes 8 4 row.location (omega arith) (omega arith) (let below = good.below in omega (arith, below));
      a_is = rw good.a_is a.states;
      q_is = rw good.q_is q.states;
      indices = good.indices;
      indicators = good.indicators;
      some_index = good.some_index;
      some_indicator = good.some_indicator;
      fields = rw (row_parts row good.a good.q good.a_is good.q_is)
          (rw (row_spaced row good.a good.q a q) at (has_spaced (codes "ROW") (octal4_text row.location ∷ codes "A" ∷ (a.fields ++ (codes "Q" ∷ (q.fields ++ flag_fields row))))));
    }

row_shown : (row : RowLine) → IsGoodRow row → IsShown 260 (row_text row)
row_shown row good =
    let a = value_spelled good.a in
    let q = value_spelled good.q in
    let x = shown-weaker (length row.x) 8 _ (let long = good.indices in omega (arith, long)) (flags_shown 48 row.x (omega arith)) in
    let v = shown-weaker (length row.v) 2 _ (let long = good.indicators in omega (arith, long)) (flags_shown 48 row.v (omega arith)) in
    let end = shown-append 3 2 (codes " V ") (flag_digits 48 row.v) (record { plain = refl; short = omega arith }) v in
    let from_x = shown-append 3 (8 + (3 + 2)) (codes " X ") (flag_digits 48 row.x ++ (codes " V " ++ flag_digits 48 row.v)) (record { plain = refl; short = omega arith })
    (shown-append 8 (3 + 2) (flag_digits 48 row.x) (codes " V " ++ flag_digits 48 row.v) x end) in
    let from_q = shown-append 3 (117 + (3 + (8 + (3 + 2)))) (codes " Q ") _ (record { plain = refl; short = omega arith })
    (shown-append 117 (3 + (8 + (3 + 2))) (value_text good.q) _ q.shown from_x) in
    let from_a = shown-append 3 (117 + (3 + (117 + (3 + (8 + (3 + 2)))))) (codes " A ") _ (record { plain = refl; short = omega arith })
    (shown-append 117 (3 + (117 + (3 + (8 + (3 + 2))))) (value_text good.a) _ a.shown from_q) in
    rw (row_parts row good.a good.q good.a_is good.q_is)
    (shown-weaker (4 + (3 + (117 + (3 + (117 + (3 + (8 + (3 + 2)))))))) 260 _ (omega arith)
    (shown-append 4 (3 + (117 + (3 + (117 + (3 + (8 + (3 + 2))))))) (octal4_text row.location) _ (four_shown row.location good.below) from_a))

-- ---- each statement

entry_is_line : (keyword : List ℕ) (entry : Entry) → IsShown 5 keyword → IsGoodEntry entry → IsShown 300 (keyword ++ (codes " " ++ entry_text entry))
entry_is_line keyword entry first good =
    shown-weaker (5 + (1 + (4 + 1 + 117))) 300 _ (omega arith) (shown-append 5 (1 + (4 + 1 + 117)) keyword _ first
    (shown-append 1 (4 + 1 + 117) (codes " ") (entry_text entry) (record { plain = refl; short = omega arith }) (entry_shown entry good)))

place_is_line : (keyword : List ℕ) (location : ℕ) → IsShown 5 keyword → location < 4096 → IsShown 300 (keyword ++ (codes " " ++ octal4_text location))
place_is_line keyword location first below =
    shown-weaker (5 + (1 + 4)) 300 _ (omega arith) (shown-append 5 (1 + 4) keyword _ first
    (shown-append 1 4 (codes " ") (octal4_text location) (record { plain = refl; short = omega arith }) (four_shown location below)))

-- the keyword of a table has five letters at most
name_shown : (table : Table) → IsShown 5 (table_name table)
name_shown table = let letters = table_letters table in record { plain = letters.0; short = letters.1 }

pub statement_is_line : (statement : Statement) → IsGood statement → IsLine (statement_text statement) statement
unfolding spaced
statement_is_line (Start location) good = record { states = place_line (codes "START") location good; shown = place_is_line (codes "START") location (record { plain = refl; short = omega arith }) good }
statement_is_line (EntryOf table entry) good = subst (λ (line : List ℕ). IsLine line (EntryOf table entry)) (sym (append_assoc (table_name table) (codes " ") (entry_text entry)))
    (record { states = entry_line (table_name table) entry good; shown = entry_is_line (table_name table) entry (name_shown table) good })
statement_is_line (May location) good = record { states = place_line (codes "MAY") location good; shown = place_is_line (codes "MAY") location (record { plain = refl; short = omega arith }) good }
statement_is_line (Row row) good = record {
  states = row_line row good;
  shown = shown-weaker (4 + 260) 300 _ (omega arith) (shown-append 4 260 (codes "ROW ") (row_text row) (record { plain = refl; short = omega arith }) (row_shown row good));
}
statement_is_line (Linked link) good = record {
  states = link_line link good;
  shown = shown-weaker (5 + (4 + 1 + 7)) 300 _ (omega arith) (shown-append 5 (4 + 1 + 7) (codes "LINK ") (link_text link) (record { plain = refl; short = omega arith }) (link_shown link good));
}
statement_is_line End good = record { states = has_spaced (codes "END") []; shown = record { plain = refl; short = omega arith } }

-- the lines that open a certificate
pub first_opening : HasFields (codes "AGSCERT 1") (codes "AGSCERT" ∷ codes "1" ∷ [])
unfolding spaced
first_opening = has_spaced (codes "AGSCERT") (codes "1" ∷ [])

pub second_opening : HasFields (codes "AGSCERT 2") (codes "AGSCERT" ∷ codes "2" ∷ [])
unfolding spaced
second_opening = has_spaced (codes "AGSCERT") (codes "2" ∷ [])
