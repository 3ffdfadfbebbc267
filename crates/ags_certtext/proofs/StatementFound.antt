-- What each line is read as, over every text: the one statement that stands after its keyword, or none.
use Rattle.std.proofs.Common.{◌≡◌, ℕ, Bool, List, Option, ◌⊎◌, refl, sym, ap, ◌∙◌, inl, inr, arith}
use Rattle.std.specs.Prelude.{ℤ}
use Rattle.std.specs.List.{list_all}
use Rattle.ags_text.specs.Field.{is_blank, AreBlanks, next_field, behind_field}
use Rattle.ags_text.specs.Numeral.{Writes}
use Rattle.ags_text.proofs.Deciding.{Decided, decide_bool}
use Rattle.ags_domain.specs.declared.values.Value.{Value}
use Rattle.ags_row.specs.declared.links.Link.{Link}
use Rattle.ags_certtext.specs.declared.keywords.Keyword.{Keyword}
use Rattle.ags_certtext.specs.declared.keywords.Keyword.TheVariants as keyword
use Rattle.ags_certtext.specs.declared.statements.Entry.{Entry}
use Rattle.ags_certtext.specs.declared.statements.RowLine.{RowLine}
use Rattle.ags_certtext.specs.declared.statements.Statement.{Statement}
use Rattle.ags_certtext.specs.declared.statements.Statement.TheVariants.{Start, Entry as EntryOf, May, Row, Linked, End}
use Rattle.ags_certtext.specs.Spelling.{States}
use Rattle.ags_certtext.specs.Front.{BeginsWithValue, BeginsWithNamed, IsPlace}
use Rattle.ags_certtext.specs.Operand.{IsEntry, IsLinkText, AreRowFlags, IsRow, keyword_name, AreOperands}
use Rattle.ags_certtext.proofs.FoundLemmas.{Only, OneFound, OnlyFront, written_found, offset_found, value_found, named_found}
use Rattle.ags_certtext.proofs.FlagFound.{named_flags_found}
use Rattle.ags_certtext.proofs.FrontLemmas.{no_word, no_word_name}
use Rattle.ags_certtext.proofs.KeywordLemmas.{keyword_found}
use Rattle.ags_certtext.proofs.StatementLemmas.{operands_state, state_operands}

-- a text is nothing but blanks, or isn't
pub decide_blanks : (text : List ℕ) → Decided (AreBlanks text)
decide_blanks text = decide_bool (list_all is_blank text)

-- ---- operands

place_found : (text : List ℕ) → OneFound ℕ (IsPlace text)
place_found text =
    elim (decide_blanks (behind_field text)) [
      | inr marks ↦ inr (λ location is. marks is.ends)
      | inl blank ↦ elim (written_found 4 (next_field text)) [
        | inr none ↦ inr (λ location is. none location is.location_is)
        | inl found ↦ inl (record { it = found.it; is = record { location_is = found.is; ends = blank }; one = λ location is. found.one location is.location_is })
      ]
    ]

entry_parts : (entry : Entry) (address : ℕ) (value : Option Value) → entry.address ≡ address → entry.value ≡ value → entry ≡ record { address = address; value = value }
entry_parts entry address value place same = rw (← place, ← same) refl

entry_found : (text : List ℕ) → OneFound Entry (IsEntry text)
entry_found text =
    elim (written_found 4 (next_field text)) [
      | inr none ↦ inr (λ entry is. none entry.address is.address_is)
      | inl address ↦ elim (value_found (behind_field text)) [
        | inr none ↦ inr (λ entry is. none entry.value is.rest is.value_is (no_word is.rest is.ends))
        | inl front ↦ of address front (decide_blanks front.rest)
      ]
    ]
  where
    of : Only ℕ (λ number. Writes 8 4 (next_field text) number) → (front : OnlyFront (BeginsWithValue (behind_field text))) → Decided (AreBlanks front.rest) → OneFound Entry (IsEntry text)
    of address front (inr marks) = inr (λ entry is. marks (rw (← (front.one entry.value is.rest is.value_is (no_word is.rest is.ends)).1) is.ends))
    of address front (inl blank) = inl (record {
      it = record { address = address.it; value = front.value };
      is = record { address_is = address.is; rest = front.rest; value_is = front.is; ends = blank };
      one = λ entry is.
          entry_parts entry address.it front.value (address.one entry.address is.address_is) (front.one entry.value is.rest is.value_is (no_word is.rest is.ends)).0;
    })

link_parts : (link : Link) (address : ℕ) (offset : ℤ) → link.address ≡ address → link.offset ≡ offset → link ≡ record { address = address; offset = offset }
link_parts link address offset place same = rw (← place, ← same) refl

link_found : (text : List ℕ) → OneFound Link (IsLinkText text)
link_found text =
    elim (decide_blanks (behind_field (behind_field text))) [
      | inr marks ↦ inr (λ link is. marks is.ends)
      | inl blank ↦ elim (written_found 4 (next_field text)) [
        | inr none ↦ inr (λ link is. none link.address is.address_is)
        | inl address ↦ elim (offset_found (next_field (behind_field text))) [
          | inr none ↦ inr (λ link is. none link.offset is.offset_is)
          | inl offset ↦ inl (record {
            it = record { address = address.it; offset = offset.it };
            is = record { address_is = address.is; offset_is = offset.is; ends = blank };
            one = λ link is. link_parts link address.it offset.it (address.one link.address is.address_is) (offset.one link.offset is.offset_is);
          })
        ]
      ]
    ]

-- the flags of a row, both of them
record RowFlags : Type 0 where
  x : List Bool
  v : List Bool

abbrev IsRowFlags : List ℕ → RowFlags → Type 0
IsRowFlags text flags = AreRowFlags text flags.x flags.v

flags_found : (text : List ℕ) → OneFound RowFlags (IsRowFlags text)
flags_found text =
    elim (named_flags_found 8 88 text) [
      | inr none ↦ inr (λ flags is. none flags.x is.x_is)
      | inl x ↦ elim (named_flags_found 2 86 (behind_field (behind_field text))) [
        | inr none ↦ inr (λ flags is. none flags.v is.v_is)
        | inl v ↦ elim (decide_blanks (behind_field (behind_field (behind_field (behind_field text))))) [
          | inr marks ↦ inr (λ flags is. marks is.ends)
          | inl blank ↦ inl (record {
            it = record { x = x.it; v = v.it };
            is = record { x_is = x.is; v_is = v.is; ends = blank };
            one = λ flags is. flags_parts flags x.it v.it (x.one flags.x is.x_is) (v.one flags.v is.v_is);
          })
        ]
      ]
    ]
  where
    flags_parts : (flags : RowFlags) (x v : List Bool) → flags.x ≡ x → flags.v ≡ v → flags ≡ record { x = x; v = v }
    flags_parts flags x v same_x same_v = rw (← same_x, ← same_v) refl

row_parts : (row : RowLine) (location : ℕ) (a q : Option Value) (x v : List Bool) → row.location ≡ location → row.a ≡ a → row.q ≡ q → row.x ≡ x → row.v ≡ v
    → row ≡ record { location = location; a = a; q = q; x = x; v = v }
row_parts row location a q x v place same_a same_q same_x same_v = rw (← place, ← same_a, ← same_q, ← same_x, ← same_v) refl

-- no word stands after the value of A, nor after that of Q
behind_a : (text : List ℕ) (row : RowLine) (front : OnlyFront (BeginsWithNamed 65 (behind_field text))) → (is : IsRow text row) → (row.a ≡ front.value) × (is.behind_a ≡ front.rest)
behind_a text row front is = front.one row.a is.behind_a is.a_is (no_word_name is.behind_a _ is.q_is.named (omega arith))

behind_q : (text : List ℕ) (row : RowLine) (a : OnlyFront (BeginsWithNamed 65 (behind_field text))) (front : OnlyFront (BeginsWithNamed 81 a.rest)) → (is : IsRow text row)
    → (row.q ≡ front.value) × (is.behind_q ≡ front.rest)
behind_q text row a front is =
    front.one row.q is.behind_q (rw (← (behind_a text row a is).1) is.q_is) (no_word_name is.behind_q _ is.flags_are.x_is.named (omega arith))

pub row_found : (text : List ℕ) → OneFound RowLine (IsRow text)
row_found text =
    elim (written_found 4 (next_field text)) [
      | inr none ↦ inr (λ row is. none row.location is.location_is)
      | inl location ↦ elim (named_found 65 (behind_field text)) [
        | inr none ↦ inr (λ row is. none row.a is.behind_a is.a_is (no_word_name is.behind_a _ is.q_is.named (omega arith)))
        | inl a ↦ elim (named_found 81 a.rest) [
          | inr none ↦ inr (λ row is.
              none row.q is.behind_q (rw (← (behind_a text row a is).1) is.q_is) (no_word_name is.behind_q _ is.flags_are.x_is.named (omega arith)))
          | inl q ↦ of location a q (flags_found q.rest)
        ]
      ]
    ]
  where
    flags_at : (row : RowLine) (rest : List ℕ) (is : IsRow text row) → is.behind_q ≡ rest → IsRowFlags rest (record { x = row.x; v = row.v })
    flags_at row rest is same = rw (← same) is.flags_are

    of : Only ℕ (λ number. Writes 8 4 (next_field text) number) → (a : OnlyFront (BeginsWithNamed 65 (behind_field text))) → (q : OnlyFront (BeginsWithNamed 81 a.rest))
        → OneFound RowFlags (IsRowFlags q.rest) → OneFound RowLine (IsRow text)
    of location a q (inr none) = inr (λ row is. none (record { x = row.x; v = row.v }) (flags_at row q.rest is (behind_q text row a q is).1))
    of location a q (inl flags) = inl (record {
      it = record { location = location.it; a = a.value; q = q.value; x = flags.it.x; v = flags.it.v };
      is = record { location_is = location.is; behind_a = a.rest; a_is = a.is; behind_q = q.rest; q_is = q.is; flags_are = flags.is };
      one = λ row is.
          let same = flags.one (record { x = row.x; v = row.v }) (flags_at row q.rest is (behind_q text row a q is).1) in
          row_parts row location.it a.value q.value flags.it.x flags.it.v (location.one row.location is.location_is) (behind_a text row a is).0 (behind_q text row a q is).0
          (ap (λ (f : RowFlags). f.x) same) (ap (λ (f : RowFlags). f.v) same);
    })

-- a text's fields state a row, or none
pub some_row : (text : List ℕ) → ((row : RowLine) × IsRow text row) ⊎ ((row : RowLine) → IsRow text row → ⊥)
some_row text = elim (row_found text) [
  | inl found ↦ inl (found.it, found.is)
  | inr none ↦ inr none
]

-- and one at most
pub one_row : (text : List ℕ) (row other : RowLine) → IsRow text row → IsRow text other → row ≡ other
one_row text row other is also = elim (row_found text) [
  | inl found ↦ found.one row is ∙ sym (found.one other also)
  | inr none ↦ absurd (none row is)
]

-- ---- statements

made_found : {X : Type 0} {P : X → Type 0} (make : X → Statement) → OneFound X P → OneFound Statement (λ statement. (x : X) × P x × (statement ≡ make x))
made_found make (inr none) = inr (λ statement is. none is.0 is.1)
made_found make (inl found) = inl (record { it = make found.it; is = (found.it, found.is, refl); one = λ statement is. is.2 ∙ ap make (found.one is.0 is.1) })

end_found : (text : List ℕ) → OneFound Statement (AreOperands keyword.End text)
end_found text =
    elim (decide_blanks text) [
      | inr marks ↦ inr (λ statement is. marks is.0)
      | inl blank ↦ inl (record { it = End; is = (blank, refl); one = λ statement is. is.1 })
    ]

operands_found : (its : Keyword) (text : List ℕ) → OneFound Statement (AreOperands its text)
operands_found keyword.Start text = made_found Start (place_found text)
operands_found (keyword.Entry table) text = made_found (λ (entry : Entry). EntryOf table entry) (entry_found text)
operands_found keyword.May text = made_found May (place_found text)
operands_found keyword.Row text = made_found Row (row_found text)
operands_found keyword.Link text = made_found Linked (link_found text)
operands_found keyword.End text = end_found text

-- A line states one thing, or nothing.
pub statement_found : (line : List ℕ) → OneFound Statement (States line)
statement_found line =
    elim (keyword_found (next_field line)) [
      | inr none ↦ inr (λ statement is. let has = state_operands line statement is in none has.its has.named)
      | inl its ↦ of its (operands_found its.it (behind_field line))
    ]
  where
    of : (its : Only Keyword (λ its. keyword_name its ≡ next_field line)) → OneFound Statement (AreOperands its.it (behind_field line)) → OneFound Statement (States line)
    of its (inr none) = inr (λ statement is. let has = state_operands line statement is in none statement (rw (← its.one has.its has.named) has.are))
    of its (inl found) = inl (record {
      it = found.it;
      is = operands_state its.it line found.it its.is found.is;
      one = λ statement is. let has = state_operands line statement is in found.one statement (rw (← its.one has.its has.named) has.are);
    })
