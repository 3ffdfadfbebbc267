-- No line that has a fault is told of a greater one, or is a card: so the fault that is told is the least, and a card
-- has none.
--
-- The lemmas that the crates above may cite, each of them behind a clause of `reading_laws.rt`: some_answer,
-- not_both_answers, told_least and least_told.
use Rattle.std.proofs.Common.{◌≡◌, ℕ, ◌≤◌, ◌⊎◌, ◌==◌, Bool, true, false, not, cond, List, [], ◌∷◌, length, Option, None, refl, sym, ap, ◌∙◌, inl, inr, arith}
use Rattle.std.specs.Prelude.{nat_lt, Result, Ok, Err}
use Rattle.std.specs.List.{list_all}
use Rattle.std.specs.Option.{ok_or}
use Rattle.std.proofs.lemmas.Bool.{le-ltb, true≢false, false_from_ne_true}
use Rattle.ags_decimal.specs.Reading as decimal
use Rattle.ags_decimal.specs.Spelling as decimal_spelling
use Rattle.ags_decimal.proofs.SpellingLaws as decimal_laws
use Rattle.ags_isa.specs.declared.orders.Order.{Order}
use Rattle.ags_card.specs.declared.cards.Card.{Card}
use Rattle.ags_card.specs.declared.cards.Body.{Body}
use Rattle.ags_card.specs.declared.cards.Body.TheVariants as body
use Rattle.ags_card.specs.declared.cards.CardFault.{CardFault}
use Rattle.ags_card.specs.declared.cards.CardFault.TheVariants.{BadByte, LongCard, BadSymbol, UnknownOperation, MissingOperand, ExtraOperand, BadExpression, BadDecimal, BadOctal}
use Rattle.ags_card.specs.declared.operations.Operation.{Operation}
use Rattle.ags_card.specs.declared.operations.Operation.TheVariants as op
use Rattle.ags_card.specs.declared.terms.Term.{Term}
use Rattle.ags_card.specs.Operation.{operation_name, operation_named, is_bare, takes_operand}
use Rattle.ags_card.specs.Symbol.{is_symbol}
use Rattle.ags_card.specs.Spelling.{is_allowed, Holds, IsExpression, IsOrder, IsOrderOperand, IsOctalOperand, IsWritten, IsComment, Spells, IsFaulty, IsBadSymbol, HasNoOperation, HasNoOperand, HasOperand, HasComma, IsNoExpression, IsNoDecimal, IsNoOctal, HasFault, fault_number, IsLeastFault}
use Rattle.ags_card.specs.Reading.{some_operand, one_operand, expression_reading, is_indexed, without_index, order_terms, plain_terms, decimal_operands, octal_reading, octal_operands, list_reading, body_reading, fits_symbol, symbol_of, operation_reading, fields_reading, symbol_field, operation_field, operand_field, is_comment, reading}
use Rattle.ags_card.proofs.ByteLemmas.{fails_not_all}
use Rattle.ags_card.proofs.SymbolLemmas.{is_symbol-IsSymbol}
use Rattle.ags_card.proofs.OperationLemmas.{named_name, name_named, name_some, value_named}
use Rattle.ags_card.proofs.ResultLemmas.{none_found, AtMost, at_most_checked, at_most_failed, at_most_mapped, at_most_none, at_most-ok, at_most-err}
use Rattle.ags_card.proofs.ExpressionLaws.{expression_spelled}
use Rattle.ags_card.proofs.ListLaws.{is_no_comma, fails_list}
use Rattle.ags_card.proofs.OperandLaws.{marked, octal_spells}
use Rattle.ags_card.proofs.FieldLemmas.{first_field, second_field, fields_read}
use Rattle.ags_card.proofs.CardLaws.{first_some, comment_is, some_not_zero, reading-spells, spelled-reading}
use Rattle.ags_card.proofs.ToldFaultLaws.{told_fault}

-- ---- the least fault

-- of an operand that must be there, and one alone
missing_at_most : {T : Type 0} (result : Result T CardFault) → result ≡ Err MissingOperand → AtMost 5 result
unfolding AtMost
missing_at_most result is = rw is (omega arith)

one_comma : {T : Type 0} (operand : List ℕ) (next : Result T CardFault) → Holds (λ b. b == 44) operand → AtMost 6 (one_operand operand next)
one_comma operand next holds =
    at_most_checked 6 (nat_lt 0 (length operand)) MissingOperand _ (omega arith) (λ some.
    at_most_failed 6 (list_all is_no_comma operand) ExtraOperand next (omega arith) (fails_not_all (λ b. b == 44) is_no_comma (λ b is. rw is refl) operand holds))

one_none : {T : Type 0} (number : ℕ) (operand : List ℕ) (found : Option T) (fault : CardFault) → 6 ≤ number → fault_number fault ≤ number → found ≡ None → AtMost number (one_operand operand (ok_or found fault))
one_none number operand found fault much less none =
    at_most_checked number (nat_lt 0 (length operand)) MissingOperand _ (omega (arith, much)) (λ some.
    at_most_checked number (list_all is_no_comma operand) ExtraOperand (ok_or found fault) much (λ alone. at_most_none number found fault less none))

not_bare : (bare : Bool) → not bare ≡ true → bare ≡ false
not_bare true is = sym is
not_bare false is = refl

body_missing : (operation : Operation) → takes_operand operation ≡ true → AtMost 5 (body_reading operation [])
unfolding plain_terms decimal_operands octal_operands order_terms
body_missing (op.OfOrder order) takes =
    rw (not_bare (is_bare order) takes) (at_most_mapped 5 (λ terms. body.Order order terms (is_indexed [])) (order_terms []) (missing_at_most (order_terms []) refl))
body_missing op.Org takes = at_most_mapped 5 body.Org (plain_terms []) (missing_at_most (plain_terms []) refl)
body_missing op.Equ takes = at_most_mapped 5 body.Equ (plain_terms []) (missing_at_most (plain_terms []) refl)
body_missing op.Syn takes = at_most_mapped 5 body.Equ (plain_terms []) (missing_at_most (plain_terms []) refl)
body_missing op.Bss takes = at_most_mapped 5 body.Bss (plain_terms []) (missing_at_most (plain_terms []) refl)
body_missing op.Bes takes = at_most_mapped 5 body.Bes (plain_terms []) (missing_at_most (plain_terms []) refl)
body_missing op.Dec takes = at_most_mapped 5 body.Dec (decimal_operands []) (missing_at_most (decimal_operands []) refl)
body_missing op.Oct takes = at_most_mapped 5 body.Oct (octal_operands []) (missing_at_most (octal_operands []) refl)
body_missing op.End takes = absurd (true≢false (sym takes))

body_comma : (operation : Operation) (operand : List ℕ) → HasComma operation operand → AtMost 6 (body_reading operation operand)
unfolding plain_terms
body_comma (op.OfOrder order) operand comma = absurd (true≢false (sym comma.0))
body_comma op.Org operand comma = at_most_mapped 6 body.Org (plain_terms operand) (one_comma operand _ comma.1)
body_comma op.Equ operand comma = at_most_mapped 6 body.Equ (plain_terms operand) (one_comma operand _ comma.1)
body_comma op.Syn operand comma = at_most_mapped 6 body.Equ (plain_terms operand) (one_comma operand _ comma.1)
body_comma op.Bss operand comma = at_most_mapped 6 body.Bss (plain_terms operand) (one_comma operand _ comma.1)
body_comma op.Bes operand comma = at_most_mapped 6 body.Bes (plain_terms operand) (one_comma operand _ comma.1)
body_comma op.Dec operand comma = absurd (true≢false (sym comma.0))
body_comma op.Oct operand comma = absurd (true≢false (sym comma.0))
body_comma op.End operand comma = absurd (true≢false (sym comma.0))

-- no terms are read of an operand that writes none
no_terms : (operand : List ℕ) → ((terms : List Term) → IsExpression operand terms → ⊥) → expression_reading operand ≡ None
no_terms operand none = none_found (IsExpression operand) (expression_reading operand) (expression_spelled operand) none

no_order_terms : (order : Order) (operand : List ℕ) → is_bare order ≡ false → ((asked : Body) → IsWritten asked (op.OfOrder order) (operand ∷ []) → ⊥) → expression_reading (without_index operand) ≡ None
no_order_terms order operand other none =
    none_found (λ terms. IsOrderOperand terms (is_indexed operand) operand) (expression_reading (without_index operand))
    (λ terms found. marked operand terms (expression_spelled (without_index operand) terms found))
    (λ terms is. none (body.Order order terms (is_indexed operand)) (refl, given (is_bare order) terms (is_indexed operand) operand other is))
  where
    given : (bare : Bool) (terms : List Term) (indexed : Bool) (operand : List ℕ) → bare ≡ false → IsOrderOperand terms indexed operand → IsOrder bare terms indexed (operand ∷ [])
    given bare terms indexed operand is written = rw is (operand, refl, written)

body_no_expression : (operation : Operation) (operand : List ℕ) → IsNoExpression operation operand → AtMost 7 (body_reading operation operand)
unfolding plain_terms order_terms
body_no_expression (op.OfOrder order) operand is =
    let other = not_bare (is_bare order) is.0 in
    rw other (
    at_most_mapped 7 (λ terms. body.Order order terms (is_indexed operand)) (order_terms operand) (
    at_most_checked 7 (nat_lt 0 (length operand)) MissingOperand (ok_or (expression_reading (without_index operand)) BadExpression) (omega arith) (λ some.
    at_most_none 7 (expression_reading (without_index operand)) BadExpression (omega arith) (no_order_terms order operand other is.1))
    )
    )
body_no_expression op.Org operand is =
    at_most_mapped 7 body.Org (plain_terms operand) (one_none 7 operand (expression_reading operand) BadExpression (omega arith) (omega arith) (no_terms operand (λ terms written. is.1 (body.Org terms) (refl, (operand, refl, written)))))
body_no_expression op.Equ operand is =
    at_most_mapped 7 body.Equ (plain_terms operand) (one_none 7 operand (expression_reading operand) BadExpression (omega arith) (omega arith) (no_terms operand (λ terms written. is.1 (body.Equ terms) (inl refl, (operand, refl, written)))))
body_no_expression op.Syn operand is =
    at_most_mapped 7 body.Equ (plain_terms operand) (one_none 7 operand (expression_reading operand) BadExpression (omega arith) (omega arith) (no_terms operand (λ terms written. is.1 (body.Equ terms) (inr refl, (operand, refl, written)))))
body_no_expression op.Bss operand is =
    at_most_mapped 7 body.Bss (plain_terms operand) (one_none 7 operand (expression_reading operand) BadExpression (omega arith) (omega arith) (no_terms operand (λ terms written. is.1 (body.Bss terms) (refl, (operand, refl, written)))))
body_no_expression op.Bes operand is =
    at_most_mapped 7 body.Bes (plain_terms operand) (one_none 7 operand (expression_reading operand) BadExpression (omega arith) (omega arith) (no_terms operand (λ terms written. is.1 (body.Bes terms) (refl, (operand, refl, written)))))
body_no_expression op.Dec operand is = absurd (true≢false (sym is.0))
body_no_expression op.Oct operand is = absurd (true≢false (sym is.0))
body_no_expression op.End operand is = absurd (true≢false (sym is.0))

-- an operand that must be there, of which nothing is read
some_none : {T : Type 0} (number : ℕ) (operand : List ℕ) (found : Option T) (fault : CardFault) → 5 ≤ number → fault_number fault ≤ number → found ≡ None → AtMost number (some_operand operand (ok_or found fault))
some_none number operand found fault much less none =
    at_most_checked number (nat_lt 0 (length operand)) MissingOperand (ok_or found fault) much (λ some. at_most_none number found fault less none)

body_no_decimal : (operation : Operation) (operand : List ℕ) → IsNoDecimal operation operand → AtMost 8 (body_reading operation operand)
unfolding decimal_operands
body_no_decimal operation operand is =
    let none = none_found (decimal_spelling.Spells is.1) (decimal.reading is.1) (decimal_laws.reading-spells is.1) is.3 in
    rw (is.0) (
    at_most_mapped 8 body.Dec (decimal_operands operand) (
    some_none 8 operand (list_reading decimal.reading [] operand) BadDecimal (omega arith) (omega arith) (fails_list decimal.reading operand is.1 is.2 none)
    )
    )

body_no_octal : (operation : Operation) (operand : List ℕ) → IsNoOctal operation operand → AtMost 9 (body_reading operation operand)
unfolding octal_operands
body_no_octal operation operand is =
    let none = none_found (IsOctalOperand is.1) (octal_reading is.1) (octal_spells is.1) is.3 in
    rw (is.0) (
    at_most_mapped 9 body.Oct (octal_operands operand) (
    some_none 9 operand (list_reading octal_reading [] operand) BadOctal (omega arith) (omega arith) (fails_list octal_reading operand is.1 is.2 none)
    )
    )

-- ---- the least fault of a line

line_at_most : (number : ℕ) (line : List ℕ) → 3 ≤ number → (IsComment line → ⊥) → AtMost number (fields_reading (symbol_field line) (operation_field line) (operand_field line)) → AtMost number (reading line)
unfolding reading
line_at_most number line much no_comment most =
    at_most_checked number (list_all is_allowed line) BadByte _ (omega (arith, much)) (λ allowed.
    at_most_checked number (nat_lt (length line) 121) LongCard _ (omega (arith, much)) (λ short.
    rw (false_from_ne_true (is_comment line) (λ comment. no_comment (comment_is line comment))) most))

fields_at_most : (number : ℕ) (symbol operation operand : List ℕ) → 4 ≤ number → AtMost number (operation_reading (operation_named operation) operand) → AtMost number (fields_reading symbol operation operand)
unfolding fields_reading
fields_at_most number symbol operation operand much most =
    at_most_checked number (fits_symbol symbol operation) BadSymbol _ (omega (arith, much)) (λ fits.
    at_most_mapped number (λ asked. record { symbol = symbol_of symbol; body = asked }) (operation_reading (operation_named operation) operand) most)

symbol_not_fits : (symbol : List ℕ) (fields : List (List ℕ)) → IsBadSymbol symbol fields → fits_symbol symbol (first_field fields) ≡ false
symbol_not_fits symbol fields (inl bad) = rw (some_not_zero symbol bad.0) (false_from_ne_true (is_symbol symbol) (λ is. bad.1 (is_symbol-IsSymbol symbol is)))
symbol_not_fits symbol fields (inr value) = rw (value.0, value.4, value_named value.1 value.2) refl

symbol_at_most : (symbol operand : List ℕ) (fields : List (List ℕ)) → IsBadSymbol symbol fields → AtMost 3 (fields_reading symbol (first_field fields) operand)
unfolding fields_reading
symbol_at_most symbol operand fields bad = at_most_failed 3 (fits_symbol symbol (first_field fields)) BadSymbol _ (omega arith) (symbol_not_fits symbol fields bad)

-- a faulty line, where the fault is of its fields
faulty_at_most : (number : ℕ) (line : List ℕ) (Is : List ℕ → List (List ℕ) → Type 0) → 3 ≤ number → (faulty : IsFaulty Is line)
    → ((symbol : List ℕ) (fields : List (List ℕ)) → Is symbol fields → AtMost number (fields_reading symbol (first_field fields) (second_field fields))) → AtMost number (reading line)
faulty_at_most number line Is much faulty most =
    let read = fields_read line faulty.symbol faulty.fields faulty.has in
    line_at_most number line much faulty.no_comment (rw (read.symbol_is, read.read.operation, read.read.operand) (most faulty.symbol faulty.fields faulty.is))

-- no operation is named by fields that begin with no name
none_named : (symbol : List ℕ) (fields : List (List ℕ)) → HasNoOperation symbol fields → operation_named (first_field fields) ≡ None
none_named symbol fields none =
    none_found (λ operation. operation_name operation ≡ first_field fields) (operation_named (first_field fields)) (named_name (first_field fields)) (λ operation name.
    let begins = first_some (operation_name operation) fields (name_some operation) (sym name) in
    none operation begins.others begins.fields_are)

operation_at_most : (number : ℕ) (symbol : List ℕ) (operation : Operation) (operand : List ℕ) → 4 ≤ number → AtMost number (body_reading operation operand)
    → AtMost number (fields_reading symbol (operation_name operation) operand)
operation_at_most number symbol operation operand much most = fields_at_most number symbol (operation_name operation) operand much (rw (name_named operation) most)

operand_at_most : (number : ℕ) (Is : Operation → List ℕ → Type 0) → 4 ≤ number → ((operation : Operation) (operand : List ℕ) → Is operation operand → AtMost number (body_reading operation operand))
    → (symbol : List ℕ) (fields : List (List ℕ)) → HasOperand Is symbol fields → AtMost number (fields_reading symbol (first_field fields) (second_field fields))
operand_at_most number Is much most symbol fields has = rw (has.are) (operation_at_most number symbol has.operation has.operand much (most has.operation has.operand has.is))

unknown_at_most : (operand : List ℕ) → AtMost 4 (operation_reading None operand)
unfolding AtMost
unknown_at_most operand = omega arith

-- a line that has a fault is told of that one, or of a lesser one
pub fault_at_most : (line : List ℕ) (fault : CardFault) → HasFault line fault → AtMost (fault_number fault) (reading line)
unfolding reading
fault_at_most line BadByte has =
    at_most_failed 1 (list_all is_allowed line) BadByte _ (omega arith) (fails_not_all (λ b. not (is_allowed b)) is_allowed (λ b is. not_true (is_allowed b) is) line has)
  where
    not_true : (b : Bool) → not b ≡ true → b ≡ false
    not_true true is = sym is
    not_true false is = refl
fault_at_most line LongCard has =
    at_most_checked 2 (list_all is_allowed line) BadByte _ (omega arith) (λ allowed. at_most_failed 2 (nat_lt (length line) 121) LongCard _ (omega arith) (le-ltb (length line) 121 (omega (arith, has))))
fault_at_most line BadSymbol has = faulty_at_most 3 line IsBadSymbol (omega arith) has (λ symbol fields bad. symbol_at_most symbol (second_field fields) fields bad)
fault_at_most line UnknownOperation has = faulty_at_most 4 line HasNoOperation (omega arith) has unknown
  where
    unknown : (symbol : List ℕ) (fields : List (List ℕ)) → HasNoOperation symbol fields → AtMost 4 (fields_reading symbol (first_field fields) (second_field fields))
    unknown symbol fields none = fields_at_most 4 symbol (first_field fields) (second_field fields) (omega arith) (rw (none_named symbol fields none) (unknown_at_most (second_field fields)))
fault_at_most line MissingOperand has = faulty_at_most 5 line HasNoOperand (omega arith) has missing
  where
    missing : (symbol : List ℕ) (fields : List (List ℕ)) → HasNoOperand symbol fields → AtMost 5 (fields_reading symbol (first_field fields) (second_field fields))
    missing symbol fields none = rw (none.2) (operation_at_most 5 symbol none.0 [] (omega arith) (body_missing none.0 none.1))
fault_at_most line ExtraOperand has = faulty_at_most 6 line (HasOperand HasComma) (omega arith) has (operand_at_most 6 HasComma (omega arith) body_comma)
fault_at_most line BadExpression has = faulty_at_most 7 line (HasOperand IsNoExpression) (omega arith) has (operand_at_most 7 IsNoExpression (omega arith) body_no_expression)
fault_at_most line BadDecimal has = faulty_at_most 8 line (HasOperand IsNoDecimal) (omega arith) has (operand_at_most 8 IsNoDecimal (omega arith) body_no_decimal)
fault_at_most line BadOctal has = faulty_at_most 9 line (HasOperand IsNoOctal) (omega arith) has (operand_at_most 9 IsNoOctal (omega arith) body_no_octal)

-- ---- cards and faults together

answer_cases : (result : Result Card CardFault) → ((card : Card) × (result ≡ Ok card)) ⊎ ((fault : CardFault) × (result ≡ Err fault))
answer_cases (Ok card) = inl (card, refl)
answer_cases (Err fault) = inr (fault, refl)

pub some_answer : (line : List ℕ) → ((card : Card) × Spells line card) ⊎ ((fault : CardFault) × HasFault line fault)
some_answer line =
    elim (answer_cases (reading line)) [
      | inl card ↦ inl (card.0, reading-spells line card.0 card.1)
      | inr fault ↦ inr (fault.0, told_fault line fault.0 fault.1)
    ]

pub not_both_answers : (line : List ℕ) (card : Card) (fault : CardFault) → Spells line card → HasFault line fault → ⊥
not_both_answers line card fault spells has = at_most-ok (fault_number fault) (reading line) card (fault_at_most line fault has) (spelled-reading line card spells)

pub told_least : (line : List ℕ) (fault : CardFault) → reading line ≡ Err fault → IsLeastFault line fault
told_least line fault is = record { has = told_fault line fault is; least = λ other has. at_most-err (fault_number other) (reading line) fault (fault_at_most line other has) is }

-- the fault of a number
fault_at : ℕ → CardFault
fault_at n =
    cond (n == 1) BadByte (cond (n == 2) LongCard (cond (n == 3) BadSymbol (cond (n == 4) UnknownOperation (cond (n == 5) MissingOperand (cond (n == 6) ExtraOperand (cond (n == 7) BadExpression (cond (n == 8) BadDecimal BadOctal)))))))

at_number : (fault : CardFault) → fault_at (fault_number fault) ≡ fault
unfolding fault_at
at_number BadByte = refl
at_number LongCard = refl
at_number BadSymbol = refl
at_number UnknownOperation = refl
at_number MissingOperand = refl
at_number ExtraOperand = refl
at_number BadExpression = refl
at_number BadDecimal = refl
at_number BadOctal = refl

same_fault : (one other : CardFault) → fault_number one ≤ fault_number other → fault_number other ≤ fault_number one → one ≡ other
same_fault one other less more =
    let same : fault_number one ≡ fault_number other = omega (arith, less, more) in
    sym (at_number one) ∙ ap fault_at same ∙ at_number other

pub least_told : (line : List ℕ) (fault : CardFault) → IsLeastFault line fault → reading line ≡ Err fault
least_told line fault is =
    elim (answer_cases (reading line)) [
      | inl card ↦ absurd (not_both_answers line card.0 fault (reading-spells line card.0 card.1) is.has)
      | inr told ↦
          let least = told_least line told.0 told.1 in
          told.1 ∙ ap Err (same_fault told.0 fault (least.least fault is.has) (is.least told.0 least.has))
    ]
