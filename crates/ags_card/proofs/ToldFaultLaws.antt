-- The fault that is told of a line is one that the line has.
use Rattle.std.proofs.Common.{◌≡◌, ℕ, ◌<◌, ◌⊎◌, ◌==◌, Bool, true, false, not, cond, List, [], ◌∷◌, length, Option, Some, None, codes, nat_eq, refl, sym, ap, subst, ◌∙◌, inl, inr, arith}
use Rattle.std.specs.Prelude.{nat_lt, Result, Ok, Err}
use Rattle.std.specs.Cmp.Lexicographic.{pointwise, same_text}
use Rattle.std.specs.List.{list_all}
use Rattle.std.specs.Option.{ok_or}
use Rattle.std.proofs.lemmas.Bool.{cases_Bool, or_cases, ltb-false, ltb-true, true≢false}
use Rattle.std.proofs.lemmas.Bool.Decides.{nat_tests}
use Rattle.ags_text.specs.Field.{AreFields}
use Rattle.ags_decimal.specs.Reading as decimal
use Rattle.ags_decimal.specs.Spelling as decimal_spelling
use Rattle.ags_isa.specs.declared.orders.Order.{Order}
use Rattle.ags_card.specs.declared.cards.Card.{Card}
use Rattle.ags_card.specs.declared.cards.Body.{Body}
use Rattle.ags_card.specs.declared.cards.Body.TheVariants as body
use Rattle.ags_card.specs.declared.cards.CardFault.{CardFault}
use Rattle.ags_card.specs.declared.cards.CardFault.TheVariants.{BadByte, LongCard, BadSymbol, UnknownOperation, MissingOperand, ExtraOperand, BadExpression, BadDecimal, BadOctal}
use Rattle.ags_card.specs.declared.operations.Operation.{Operation}
use Rattle.ags_card.specs.declared.operations.Operation.TheVariants as op
use Rattle.ags_card.specs.Operation.{operation_name, operation_named, gives_value, is_bare, takes_operand, takes_one, takes_expression}
use Rattle.ags_card.specs.Symbol.{is_symbol}
use Rattle.ags_card.specs.Spelling.{is_allowed, comment_card, Holds, IsWritten, IsComment, IsFaulty, IsBadSymbol, IsOctalOperand, HasNoOperation, HasOperand, HasComma, IsNoExpression, IsNoDecimal, IsNoOctal, HasFault}
use Rattle.ags_card.specs.Reading.{checked, mapped, some_operand, one_operand, expression_reading, is_indexed, without_index, order_terms, plain_terms, decimal_operands, octal_reading, octal_operands, list_reading, names_value, body_reading, fits_symbol, symbol_of, operation_reading, fields_reading, symbol_field, operation_field, operand_field, is_comment, reading}
use Rattle.ags_card.proofs.ByteLemmas.{some_fails}
use Rattle.ags_card.proofs.SymbolLemmas.{IsSymbol-is_symbol}
use Rattle.ags_card.proofs.OperationLemmas.{named_name, name_named, name_some}
use Rattle.ags_card.proofs.ResultLemmas.{checked_err, mapped_err, ok_or_err}
use Rattle.ags_card.proofs.ListLaws.{is_no_comma, list_fails}
use Rattle.ags_card.proofs.OperandLaws.{decimal_finds, octal_found}
use Rattle.ags_card.proofs.FieldLemmas.{CardFields, AreRead, card_fields, first_field, second_field, cut_read}
use Rattle.ags_card.proofs.BodyLaws.{body_read}
use Rattle.ags_card.proofs.CardLaws.{first_some, is_comment_from, empty_of_length}

-- ---- what is told of an operation and its operand

-- an operation with this operand has the fault
abbrev BodyFault : Operation → List ℕ → CardFault → Type 0
BodyFault operation operand BadByte = ⊥
BodyFault operation operand LongCard = ⊥
BodyFault operation operand BadSymbol = ⊥
BodyFault operation operand UnknownOperation = ⊥
BodyFault operation operand MissingOperand = (takes_operand operation ≡ true) × (operand ≡ [])
BodyFault operation operand ExtraOperand = (0 < length operand) × HasComma operation operand
BodyFault operation operand BadExpression = (0 < length operand) × IsNoExpression operation operand
BodyFault operation operand BadDecimal = (0 < length operand) × IsNoDecimal operation operand
BodyFault operation operand BadOctal = (0 < length operand) × IsNoOctal operation operand

-- an operand that is not there
no_operand : (operand : List ℕ) → nat_lt 0 (length operand) ≡ false → operand ≡ []
no_operand [] none = refl
no_operand (b ∷ operand) none = absurd (grind (arith, nat_tests))

-- a byte that is not no comma is one
comma_of : (operand : List ℕ) → Holds (λ b. not (is_no_comma b)) operand → Holds (λ b. b == 44) operand
comma_of operand holds = (holds.0, holds.1, holds.2, holds.3, twice (holds.1 == 44) holds.4)
  where
    twice : (b : Bool) → not (not b) ≡ true → b ≡ true
    twice true is = refl
    twice false is = is

-- what is told of an operand that must be one alone
OneFault : {T : Type 0} → List ℕ → Result T CardFault → CardFault → Type 0
OneFault operand next told = ((told ≡ MissingOperand) × (operand ≡ []))
    ⊎ (((told ≡ ExtraOperand) × (0 < length operand) × Holds (λ b. b == 44) operand) ⊎ ((0 < length operand) × (next ≡ Err told)))

one_fault : {T : Type 0} (operand : List ℕ) (next : Result T CardFault) (told : CardFault) → one_operand operand next ≡ Err told → OneFault operand next told
unfolding OneFault
one_fault operand next told is =
    elim (checked_err (nat_lt 0 (length operand)) MissingOperand (checked (list_all is_no_comma operand) ExtraOperand next) told is) [
      | inl missing ↦ inl (missing.1, no_operand operand missing.0)
      | inr there ↦ elim (checked_err (list_all is_no_comma operand) ExtraOperand next told there.1) [
        | inl comma ↦ inr (inl (comma.1, ltb-true 0 (length operand) there.0, comma_of operand (some_fails is_no_comma operand comma.0)))
        | inr alone ↦ inr (inr (ltb-true 0 (length operand) there.0, alone.1))
      ]
    ]

-- where a fault is told, the operand writes nothing
no_body : (operation : Operation) (operand : List ℕ) (told : CardFault) → body_reading operation operand ≡ Err told → (asked : Body) → IsWritten asked operation (operand ∷ []) → ⊥
no_body operation operand told is asked written =
    let read = body_read asked operation (operand ∷ []) operand written refl in
    let both : ◌≡◌ {A = Result Body CardFault} (Ok asked) (Err told) = sym read ∙ is in
    absurd (cc)

-- the fault of an operand that is one alone, where the last fault is known
one_body : {T : Type 0} (operation : Operation) (operand : List ℕ) (found : Option T) (last told : CardFault) → takes_operand operation ≡ true → takes_one operation ≡ true
    → one_operand operand (ok_or found last) ≡ Err told → ((0 < length operand) → told ≡ last → BodyFault operation operand last) → BodyFault operation operand told
unfolding OneFault
one_body operation operand found last told takes one is bad =
    elim (one_fault operand (ok_or found last) told is) [
      | inl missing ↦ rw (missing.0) (takes, missing.1)
      | inr more ↦ elim more [
        | inl comma ↦ rw (comma.0) (comma.1, (one, comma.2))
        | inr alone ↦ let told_is = (ok_or_err found last told alone.1).1 in rw told_is (bad alone.0 told_is)
      ]
    ]

order_fault : (order : Order) (operand : List ℕ) (told : CardFault) → body_reading (op.OfOrder order) operand ≡ Err told → BodyFault (op.OfOrder order) operand told
unfolding order_terms
order_fault order operand told is =
    elim (cases_Bool (is_bare order)) [
      | inl bare ↦ let both : ◌≡◌ {A = Result Body CardFault} (Ok _) (Err told) = rw bare at is in absurd (cc)
      | inr other ↦
          let takes : not (is_bare order) ≡ true = rw other refl in
          let failed = mapped_err (λ terms. body.Order order terms (is_indexed operand)) (order_terms operand) told (rw other at is) in
          elim (checked_err (nat_lt 0 (length operand)) MissingOperand (ok_or (expression_reading (without_index operand)) BadExpression) told failed) [
            | inl missing ↦ rw (missing.1) (takes, no_operand operand missing.0)
            | inr there ↦
                let told_is = (ok_or_err (expression_reading (without_index operand)) BadExpression told there.1).1 in
                rw told_is (ltb-true 0 (length operand) there.0, (takes, no_body (op.OfOrder order) operand told is))
          ]
    ]

-- the fault of an operand that is an expression alone
plain_fault : (operation : Operation) (operand : List ℕ) (told : CardFault) → takes_operand operation ≡ true → takes_one operation ≡ true → takes_expression operation ≡ true
    → body_reading operation operand ≡ Err told → plain_terms operand ≡ Err told → BodyFault operation operand told
unfolding plain_terms
plain_fault operation operand told takes one expression is failed =
    one_body operation operand (expression_reading operand) BadExpression told takes one failed (λ some last. (some, (expression, no_body operation operand told is)))

-- the fault of an operand that must be there, where the other fault is known
list_body : {T : Type 0} (operation : Operation) (operand : List ℕ) (found : Option T) (last told : CardFault) → takes_operand operation ≡ true → some_operand operand (ok_or found last) ≡ Err told
    → ((0 < length operand) → found ≡ None → BodyFault operation operand last) → BodyFault operation operand told
list_body operation operand found last told takes is bad =
    elim (checked_err (nat_lt 0 (length operand)) MissingOperand (ok_or found last) told is) [
      | inl missing ↦ rw (missing.1) (takes, no_operand operand missing.0)
      | inr there ↦ let told_is = ok_or_err found last told there.1 in rw (told_is.1) (bad (ltb-true 0 (length operand) there.0) told_is.0)
    ]

-- what is none of these can't be written
none_written : {X : Type 0} (found : Option X) (Is : X → Type 0) → ((x : X) → Is x → found ≡ Some x) → found ≡ None → (x : X) → Is x → ⊥
none_written found Is finds none x is = let both : ◌≡◌ {A = Option _} None (Some x) = sym none ∙ finds x is in absurd (cc)

body_fault : (operation : Operation) (operand : List ℕ) (told : CardFault) → body_reading operation operand ≡ Err told → BodyFault operation operand told
unfolding decimal_operands octal_operands
body_fault (op.OfOrder order) operand told is = order_fault order operand told is
body_fault op.Org operand told is = plain_fault op.Org operand told refl refl refl is (mapped_err body.Org (plain_terms operand) told is)
body_fault op.Equ operand told is = plain_fault op.Equ operand told refl refl refl is (mapped_err body.Equ (plain_terms operand) told is)
body_fault op.Syn operand told is = plain_fault op.Syn operand told refl refl refl is (mapped_err body.Equ (plain_terms operand) told is)
body_fault op.Bss operand told is = plain_fault op.Bss operand told refl refl refl is (mapped_err body.Bss (plain_terms operand) told is)
body_fault op.Bes operand told is = plain_fault op.Bes operand told refl refl refl is (mapped_err body.Bes (plain_terms operand) told is)
body_fault op.Dec operand told is =
    list_body op.Dec operand (list_reading decimal.reading [] operand) BadDecimal told refl (mapped_err body.Dec (decimal_operands operand) told is) (λ some none.
    let fails = list_fails decimal.reading operand none in
    (some, (refl, fails.part, fails.stands, none_written (decimal.reading fails.part) (decimal_spelling.Spells fails.part) (decimal_finds fails.part) fails.none)))
body_fault op.Oct operand told is =
    list_body op.Oct operand (list_reading octal_reading [] operand) BadOctal told refl (mapped_err body.Oct (octal_operands operand) told is) (λ some none.
    let fails = list_fails octal_reading operand none in
    (some, (refl, fails.part, fails.stands, none_written (octal_reading fails.part) (IsOctalOperand fails.part) (octal_found fails.part) fails.none)))
body_fault op.End operand told is = let both : ◌≡◌ {A = Result Body CardFault} (Ok body.End) (Err told) = is in absurd (cc)

-- ---- what is told of a line

-- the operand that a line has, or none
operand_of : (operation : Operation) (fields : List (List ℕ)) (operand : List ℕ) (Is : Operation → List ℕ → Type 0) (symbol : List ℕ) → first_field fields ≡ operation_name operation
    → second_field fields ≡ operand → 0 < length operand → Is operation operand → HasOperand Is symbol fields
operand_of operation fields operand Is symbol first second some is =
    let begins = first_some (operation_name operation) fields (name_some operation) first in
    let more = first_some operand begins.others some (sym begins.second_is ∙ second) in
    record { operation = operation; operand = operand; remark = more.others; are = begins.fields_are ∙ ap (λ x. operation_name operation ∷ x) more.fields_are; is = is }

-- the fields are none where the first of them is empty
no_fields : (fields : List (List ℕ)) → AreFields fields → first_field fields ≡ [] → fields ≡ []
no_fields [] are first = refl
no_fields (field ∷ fields) are first = absurd (nothing field are.0.some first)
  where
    nothing : (field : List ℕ) → 0 < length field → field ≡ [] → ⊥
    nothing [] some is = omega arith
    nothing (b ∷ field) some is = absurd (cc)

-- an operation that stands alone
alone_of : (operation : Operation) (fields : List (List ℕ)) → AreFields fields → first_field fields ≡ operation_name operation → second_field fields ≡ [] → fields ≡ operation_name operation ∷ []
alone_of operation fields are first second =
    let begins = first_some (operation_name operation) fields (name_some operation) first in
    let behind : AreFields (operation_name operation ∷ begins.others) = subst AreFields begins.fields_are are in
    let none : begins.others ≡ [] = no_fields begins.others behind.1 (sym begins.second_is ∙ second) in
    begins.fields_are ∙ ap (λ x. operation_name operation ∷ x) none

-- a line that is no comment, with its fields
record IsRead (line : List ℕ) : Type 0 where
  no_comment : IsComment line → ⊥
  of : CardFields line
  read : AreRead line of.fields

read_line : (line : List ℕ) → is_comment line ≡ false → IsRead line
read_line line other =
    let of = card_fields line in
    record { no_comment = λ comment. true≢false (sym (is_comment_from line comment) ∙ other); of = of; read = cut_read line of.fields of.cut }

-- what holds of its fields is a fault of the line
faulty_by : {Is : List ℕ → List (List ℕ) → Type 0} (line : List ℕ) → (its : IsRead line) → Is (symbol_field line) its.of.fields → IsFaulty Is line
faulty_by line its is = record { no_comment = its.no_comment; symbol = symbol_field line; fields = its.of.fields; has = its.of.has; is = is }

-- its first field is its operation's name
name_first : (line : List ℕ) (operation : Operation) → (its : IsRead line) → operation_named (operation_field line) ≡ Some operation → first_field its.of.fields ≡ operation_name operation
name_first line operation its found = sym its.read.operation ∙ sym (named_name (operation_field line) operation found)

-- what holds of its operation and its operand is a fault of the line
faulty_operand : (Is : Operation → List ℕ → Type 0) (line : List ℕ) (operation : Operation) → IsRead line → operation_named (operation_field line) ≡ Some operation
    → (0 < length (operand_field line)) × Is operation (operand_field line) → IsFaulty (HasOperand Is) line
faulty_operand Is line operation its found is =
    faulty_by line its
    (operand_of operation its.of.fields (operand_field line) Is (symbol_field line) (name_first line operation its found) (sym its.read.operand) is.0 is.1)

-- the fault of an operation is the line's
faulty : (line : List ℕ) (told : CardFault) (operation : Operation) → IsRead line → operation_named (operation_field line) ≡ Some operation → BodyFault operation (operand_field line) told
    → HasFault line told
faulty line BadByte operation its found is = absurd is
faulty line LongCard operation its found is = absurd is
faulty line BadSymbol operation its found is = absurd is
faulty line UnknownOperation operation its found is = absurd is
faulty line MissingOperand operation its found is =
    faulty_by line its (operation, is.0, alone_of operation its.of.fields its.of.are (name_first line operation its found) (sym its.read.operand ∙ is.1))
faulty line ExtraOperand operation its found is = faulty_operand HasComma line operation its found is
faulty line BadExpression operation its found is = faulty_operand IsNoExpression line operation its found is
faulty line BadDecimal operation its found is = faulty_operand IsNoDecimal line operation its found is
faulty line BadOctal operation its found is = faulty_operand IsNoOctal line operation its found is

-- no operation is found of fields that do not begin with a name
no_operation : (line symbol : List ℕ) (fields : List (List ℕ)) → operation_field line ≡ first_field fields → operation_named (operation_field line) ≡ None → HasNoOperation symbol fields
no_operation line symbol fields first none = λ operation others are.
    let name : operation_field line ≡ operation_name operation = first ∙ ap first_field are in
    let found : Some operation ≡ None = sym (name_named operation) ∙ ap operation_named (sym name) ∙ none in
    absurd (cc)

-- a symbol field that does not fit
bad_symbol : (symbol operation : List ℕ) (fields : List (List ℕ)) → operation ≡ first_field fields → fits_symbol symbol operation ≡ false → IsBadSymbol symbol fields
bad_symbol symbol operation fields first fails =
    elim (cases_Bool (length symbol == 0)) [
      | inl none ↦
          let value : names_value operation ≡ true = not_false (names_value operation) (rw none at fails) in
          elim (or_cases (pointwise nat_eq operation (codes "EQU")) (pointwise nat_eq operation (codes "SYN")) value) [
            | inl equ ↦ inr (named op.Equ refl (empty_of_length symbol none) (same_text operation (codes "EQU") (sym equ)))
            | inr syn ↦ inr (named op.Syn refl (empty_of_length symbol none) (same_text operation (codes "SYN") (sym syn)))
          ]
      | inr some ↦
          let no : is_symbol symbol ≡ false = rw some at fails in
          inl (length_some symbol some, λ is. true≢false (sym (IsSymbol-is_symbol symbol is) ∙ no))
    ]
  where
    named : (of : Operation) → gives_value of ≡ true → symbol ≡ [] → operation ≡ operation_name of
        → (symbol ≡ []) × (of : Operation) × (gives_value of ≡ true) × (others : List (List ℕ)) × (fields ≡ operation_name of ∷ others)
    named of gives empty name =
        let begins = first_some (operation_name of) fields (name_some of) (sym first ∙ name) in
        (empty, of, gives, begins.others, begins.fields_are)

    not_false : (b : Bool) → not b ≡ false → b ≡ true
    not_false true is = refl
    not_false false is = sym is

    length_some : (symbol : List ℕ) → (length symbol == 0) ≡ false → 0 < length symbol
    length_some [] is = absurd (true≢false is)
    length_some (b ∷ symbol) is = omega arith

operation_cases : (found : Option Operation) → (found ≡ None) ⊎ ((operation : Operation) × (found ≡ Some operation))
operation_cases None = inl refl
operation_cases (Some operation) = inr (operation, refl)

-- the fault of a line that is no comment
fields_fault : (line : List ℕ) (told : CardFault) → IsRead line → fields_reading (symbol_field line) (operation_field line) (operand_field line) ≡ Err told → HasFault line told
unfolding fields_reading
fields_fault line told its is =
    elim (checked_err (fits_symbol (symbol_field line) (operation_field line)) BadSymbol (mapped (λ asked. record { symbol = symbol_of (symbol_field line); body = asked }) (operation_reading (operation_named (operation_field line)) (operand_field line))) told is) [
      | inl bad ↦ rw (bad.1) (faulty_by line its (bad_symbol (symbol_field line) (operation_field line) its.of.fields its.read.operation bad.0))
      | inr fits ↦
          let failed = mapped_err (λ asked. record { symbol = symbol_of (symbol_field line); body = asked }) (operation_reading (operation_named (operation_field line)) (operand_field line)) told fits.1 in
          elim (operation_cases (operation_named (operation_field line))) [
            | inl none ↦
                let value : ◌≡◌ {A = Result Body CardFault} (Err UnknownOperation) (Err told) = rw none at failed in
                let same : told ≡ UnknownOperation = (cc) in
                rw same (faulty_by line its (no_operation line (symbol_field line) its.of.fields its.read.operation none))
            | inr found ↦ faulty line told found.0 its found.1 (body_fault found.0 (operand_field line) told (rw (found.1) at failed))
          ]
    ]

pub told_fault : (line : List ℕ) (told : CardFault) → reading line ≡ Err told → HasFault line told
unfolding reading
told_fault line told is =
    elim (checked_err (list_all is_allowed line) BadByte (checked (nat_lt (length line) 121) LongCard (cond (is_comment line) (Ok comment_card) (fields_reading (symbol_field line) (operation_field line) (operand_field line)))) told is) [
      | inl bad ↦ rw (bad.1) (some_fails is_allowed line bad.0)
      | inr allowed ↦ elim (checked_err (nat_lt (length line) 121) LongCard (cond (is_comment line) (Ok comment_card) (fields_reading (symbol_field line) (operation_field line) (operand_field line))) told allowed.1) [
        | inl long ↦ rw (long.1) (omega (arith, ltb-false (length line) 121 long.0))
        | inr short ↦ elim (cases_Bool (is_comment line)) [
          | inl comment ↦ let both : ◌≡◌ {A = Result Card CardFault} (Ok comment_card) (Err told) = rw comment at short.1 in absurd (cc)
          | inr other ↦ fields_fault line told (read_line line other) (rw other at short.1)
        ]
      ]
    ]
