-- Lines and cards: what a line is read as is the card that it spells, both ways.
--
-- The lemmas that the crates above may cite, each of them behind a clause of `reading_laws.rt`: reading-spells and
-- spelled-reading.
use Rattle.std.proofs.Common.{◌≡◌, ℕ, ◌<◌, ◌==◌, ◌||◌, Bool, true, false, List, [], ◌∷◌, ◌++◌, length, Option, Some, None, unwrap_or, refl, sym, ap, ◌∙◌, inl, inr, arith}
use Rattle.std.specs.Prelude.{nat_lt, slice_index, Result, Ok}
use Rattle.std.specs.List.{list_all}
use Rattle.std.proofs.lemmas.Bool.{cases_Bool, lt-ltb, ltb-true, eqb-true, eq-eqb, ne_eqb, or_cases, or_left, or_right, or_from, false_from_ne_true}
use Rattle.std.proofs.lemmas.Bool.Decides.{nat_tests}
use Rattle.ags_text.specs.Field.{is_blank}
use Rattle.ags_card.specs.declared.cards.Card.{Card}
use Rattle.ags_card.specs.declared.cards.Body.{Body}
use Rattle.ags_card.specs.declared.cards.CardFault.TheVariants.{BadByte, LongCard, BadSymbol}
use Rattle.ags_card.specs.declared.operations.Operation.{Operation}
use Rattle.ags_card.specs.Operation.{operation_name, operation_named, gives_value}
use Rattle.ags_card.specs.Symbol.{is_capital, is_symbol}
use Rattle.ags_card.specs.Spelling.{is_allowed, IsComment, comment_card, HasCardFields, FitsSymbol, WritesCard, Spells}
use Rattle.ags_card.specs.Reading.{body_reading, fits_symbol, symbol_of, operation_reading, fields_reading, symbol_field, operation_field, operand_field, is_comment, reading}
use Rattle.ags_card.proofs.ByteLemmas.{first_by}
use Rattle.ags_card.proofs.SymbolLemmas.{is_symbol-IsSymbol, IsSymbol-is_symbol}
use Rattle.ags_card.proofs.OperationLemmas.{named_name, name_named, name_some, not_value, other_named}
use Rattle.ags_card.proofs.ResultLemmas.{checked_ok, mapped_ok}
use Rattle.ags_card.proofs.FieldLemmas.{card_fields, first_field, second_field, cut_read, fields_read, not_blank}
use Rattle.ags_card.proofs.BodyLaws.{Stands, BodyIsWritten, body_spelled, IsFirst, body_read}
use Rattle.ags_decimal.specs.Spelling.{is_digit}

-- ---- operations

-- the operation that was read
pub record IsOperation (found : Option Operation) (operand : List ℕ) (asked : Body) : Type 0 where
  pub operation : Operation
  pub found_is : found ≡ Some operation
  pub body_is : body_reading operation operand ≡ Ok asked

operation_ok : (found : Option Operation) (operand : List ℕ) (asked : Body) → operation_reading found operand ≡ Ok asked → IsOperation found operand asked
operation_ok None operand asked is = absurd (cc)
operation_ok (Some operation) operand asked is = record { operation = operation; found_is = refl; body_is = is }

-- fields that begin with a name
pub record BeginsWith (name : List ℕ) (fields : List (List ℕ)) : Type 0 where
  pub others : List (List ℕ)
  pub fields_are : fields ≡ name ∷ others
  pub second_is : second_field fields ≡ first_field others

pub first_some : (name : List ℕ) (fields : List (List ℕ)) → 0 < length name → first_field fields ≡ name → BeginsWith name fields
first_some name [] some is = absurd (nothing name some is)
  where
    nothing : (name : List ℕ) → 0 < length name → [] ≡ name → ⊥
    nothing [] some is = omega arith
    nothing (b ∷ name) some is = absurd (cc)
first_some name (field ∷ fields) some is = record { others = fields; fields_are = ap (λ x. x ∷ fields) is; second_is = refl }

-- ---- the symbol field

-- what the symbol field and its test say
record FitsField (symbol : List ℕ) (operation : Operation) : Type 0 where
  same : unwrap_or (symbol_of symbol) [] ≡ symbol
  fits : FitsSymbol (symbol_of symbol) operation

pub empty_of_length : (symbol : List ℕ) → (length symbol == 0) ≡ true → symbol ≡ []
empty_of_length [] is = refl
empty_of_length (b ∷ symbol) is = absurd (grind (arith, nat_tests))

no_symbol : (operation : Operation) → gives_value operation ≡ false → FitsField [] operation
unfolding is_symbol
no_symbol operation other = record { same = refl; fits = other }

fits_field : (symbol : List ℕ) (operation : Operation) → fits_symbol symbol (operation_name operation) ≡ true → FitsField symbol operation
fits_field symbol operation fits =
    elim (cases_Bool (length symbol == 0)) [
      | inl none ↦
          let empty = empty_of_length symbol none in
          let other = not_value operation (rw none at fits) in
          rw empty (no_symbol operation other)
      | inr some ↦
          let is : is_symbol symbol ≡ true = rw some at fits in
          record { same = rw is refl; fits = rw is (is_symbol-IsSymbol symbol is) }
    ]

-- ---- from what is read to what is spelled

-- what stands after the operands is the remark
record IsRemark (operands others : List (List ℕ)) : Type 0 where
  remark : List (List ℕ)
  whole : others ≡ operands ++ remark

remark_of : (operands : List (List ℕ)) (operand : List ℕ) (others : List (List ℕ)) → Stands operands operand → first_field others ≡ operand → IsRemark operands others
remark_of operands operand others (inl none) first = rw none (record { remark = others; whole = refl })
remark_of operands operand others (inr one) first =
    let begins = first_some operand others one.1 first in
    rw (one.0) (record { remark = begins.others; whole = begins.fields_are })

-- the card of fields that were read
written_card : (line symbol : List ℕ) (fields : List (List ℕ)) (operation : Operation) (operand : List ℕ) (asked : Body) → HasCardFields line symbol fields
    → first_field fields ≡ operation_name operation → second_field fields ≡ operand → fits_symbol symbol (operation_name operation) ≡ true → BodyIsWritten asked operation operand
    → WritesCard line (record { symbol = symbol_of symbol; body = asked })
written_card line symbol fields operation operand asked has first second fits written =
    let begins = first_some (operation_name operation) fields (name_some operation) first in
    let rest = remark_of written.operands operand begins.others written.stands (sym begins.second_is ∙ second) in
    let field = fits_field symbol operation fits in
    let all : fields ≡ operation_name operation ∷ (written.operands ++ rest.remark) = begins.fields_are ∙ ap (λ (x : List (List ℕ)). operation_name operation ∷ x) rest.whole in
    record {
      operation = operation;
      operands = written.operands;
      remark = rest.remark;
      fields = rw (field.same, ← all) has;
      fits = field.fits;
      written = written.written;
    }

-- a card that was read of its fields
record ReadsAs (symbol operation operand : List ℕ) (card : Card) : Type 0 where
  named : Operation
  asked : Body
  fits : fits_symbol symbol operation ≡ true
  name : operation_name named ≡ operation
  written : BodyIsWritten asked named operand
  card_is : card ≡ record { symbol = symbol_of symbol; body = asked }

reads_as : (symbol operation operand : List ℕ) (card : Card) → fields_reading symbol operation operand ≡ Ok card → ReadsAs symbol operation operand card
unfolding fields_reading
reads_as symbol operation operand card is =
    let fits = checked_ok (fits_symbol symbol operation) BadSymbol _ card is in
    let made = mapped_ok (λ asked. record { symbol = symbol_of symbol; body = asked }) (operation_reading (operation_named operation) operand) card fits.1 in
    let read = operation_ok (operation_named operation) operand made.x made.result_is in
    record {
      named = read.operation;
      asked = made.x;
      fits = fits.0;
      name = named_name operation read.operation read.found_is;
      written = body_spelled read.operation operand made.x read.body_is;
      card_is = made.made;
    }

fields_spelled : (line : List ℕ) (card : Card) → fields_reading (symbol_field line) (operation_field line) (operand_field line) ≡ Ok card → WritesCard line card
fields_spelled line card is =
    let read = reads_as (symbol_field line) (operation_field line) (operand_field line) card is in
    let of = card_fields line in
    let cut = cut_read line of.fields of.cut in
    let fits : fits_symbol (symbol_field line) (operation_name read.named) ≡ true = rw (read.name) read.fits in
    rw (read.card_is) (
    written_card line (symbol_field line) of.fields read.named (operand_field line) read.asked of.has (sym cut.operation ∙ sym read.name) (sym cut.operand) fits read.written
    )

pub comment_is : (line : List ℕ) → is_comment line ≡ true → IsComment line
comment_is line is =
    elim (or_cases (slice_index line 0 == 42) (list_all is_blank line) is) [
      | inl at ↦ inr (eqb-true (slice_index line 0) 42 at)
      | inr blanks ↦ inl blanks
    ]

pub reading-spells : (line : List ℕ) (card : Card) → reading line ≡ Ok card → Spells line card
unfolding reading
reading-spells line card is =
    let allowed = checked_ok (list_all is_allowed line) BadByte _ card is in
    let short = checked_ok (nat_lt (length line) 121) LongCard _ card allowed.1 in
    let most : length line < 121 = ltb-true (length line) 121 short.0 in
    record {
      most = omega (arith, most);
      allowed = allowed.0;
      states = elim (cases_Bool (is_comment line)) [
        | inl comment ↦
            let value : ◌≡◌ {A = Result Card _} (Ok comment_card) (Ok card) = rw comment at short.1 in
            let same : card ≡ comment_card = (cc) in
            inl (same, comment_is line comment)
        | inr other ↦ inr (fields_spelled line card (rw other at short.1))
      ];
    }

-- ---- from what is spelled to what is read

-- a byte of a symbol
abbrev is_symbol_byte : ℕ → Bool
is_symbol_byte b = is_capital b || is_digit b

no_asterisk : (symbol : Option (List ℕ)) (operation : Operation) (line : List ℕ) (field : List ℕ) (fields : List (List ℕ)) → FitsSymbol symbol operation
    → HasCardFields line (unwrap_or symbol []) (field ∷ fields) → (slice_index line 0 == 42) ≡ false
no_asterisk None operation line field fields fits has =
    let gap = has.further in
    let whole : line ≡ gap.0 ++ (field ++ gap.1) = has.whole ∙ gap.3 in
    rw whole (first_by is_blank 42 refl gap.0 (field ++ gap.1) gap.2.some gap.2.blanks)
no_asterisk (Some symbol) operation line field fields fits has = rw (has.whole) (first_by is_symbol_byte 42 refl symbol has.behind fits.some fits.bytes)

-- a line that writes a card is no comment
pub no_comment : (line : List ℕ) (card : Card) → WritesCard line card → is_comment line ≡ false
no_comment line card writes =
    or_from (slice_index line 0 == 42) (list_all is_blank line)
    (no_asterisk card.symbol writes.operation line (operation_name writes.operation) (writes.operands ++ writes.remark) writes.fits writes.fields)
    (false_from_ne_true (list_all is_blank line) (not_blank line (unwrap_or card.symbol []) (operation_name writes.operation) (writes.operands ++ writes.remark) writes.fields))

pub some_not_zero : (symbol : List ℕ) → 0 < length symbol → (length symbol == 0) ≡ false
some_not_zero symbol some = ne_eqb (length symbol) 0 (λ none. omega (arith, some, none))

field_fits : (symbol : Option (List ℕ)) (operation : Operation) → FitsSymbol symbol operation → fits_symbol (unwrap_or symbol []) (operation_name operation) ≡ true
field_fits None operation fits = rw (other_named operation fits) refl
field_fits (Some symbol) operation fits = rw (some_not_zero symbol fits.some, IsSymbol-is_symbol symbol fits) refl

symbol_of_field : (symbol : Option (List ℕ)) (operation : Operation) → FitsSymbol symbol operation → symbol_of (unwrap_or symbol []) ≡ symbol
unfolding is_symbol
symbol_of_field None operation fits = refl
symbol_of_field (Some symbol) operation fits = rw (IsSymbol-is_symbol symbol fits) refl

first_of : (operands remark : List (List ℕ)) → IsFirst operands (first_field (operands ++ remark))
first_of [] remark = tt
first_of (operand ∷ operands) remark = refl

writes_read : (line : List ℕ) (card : Card) → WritesCard line card → fields_reading (symbol_field line) (operation_field line) (operand_field line) ≡ Ok card
unfolding fields_reading
writes_read line card writes =
    let read = fields_read line (unwrap_or card.symbol []) (operation_name writes.operation ∷ (writes.operands ++ writes.remark)) writes.fields in
    let asked = body_read card.body writes.operation writes.operands (first_field (writes.operands ++ writes.remark)) writes.written (first_of writes.operands writes.remark) in
    rw (
      read.symbol_is,
      read.read.operation,
      read.read.operand,
      field_fits card.symbol writes.operation writes.fits,
      symbol_of_field card.symbol writes.operation writes.fits,
      name_named writes.operation,
      asked,
    ) refl

pub is_comment_from : (line : List ℕ) → IsComment line → is_comment line ≡ true
is_comment_from line (inl blanks) = or_right (slice_index line 0 == 42) (list_all is_blank line) blanks
is_comment_from line (inr at) = or_left (slice_index line 0 == 42) (list_all is_blank line) (eq-eqb (slice_index line 0) 42 at)

pub spelled-reading : (line : List ℕ) (card : Card) → Spells line card → reading line ≡ Ok card
unfolding reading
spelled-reading line card spells =
    let short : nat_lt (length line) 121 ≡ true = lt-ltb (length line) 121 (omega (arith, spells.most)) in
    let allowed : list_all is_allowed line ≡ true = spells.allowed in
    rw (allowed, short) (elim spells.states [
      | inl comment ↦ rw (is_comment_from line comment.1) (ap Ok (sym comment.0))
      | inr writes ↦ rw (no_comment line card writes) (writes_read line card writes)
    ])
