-- What a line is read as: its card, or the first fault that a reader meets from left to right. It looks at the fields
-- that are cut from the line.
use Rattle.std.specs.Prelude.{ℕ, ◌-◌, Bool, false, not, ◌&&◌, ◌||◌, ◌==◌, nat_lt, nat_eq, List, [], ◌∷◌, ◌++◌, length, take, drop, slice_index, Option, Some, None, Result, Ok, Err, if◌then◌else◌, codes}
use Rattle.std.specs.Option.{option_map, ok_or}
use Rattle.std.specs.Cmp.Lexicographic.{pointwise}
use Rattle.std.specs.List.{list_all}
use Rattle.std.specs.Str.Parse.{starts_with_minus, without_leading_sign}
use Rattle.ags_text.specs.Field.{is_blank, leading_field, behind_leading_field, next_field, behind_field}
use Rattle.ags_text.specs.Numeral.{number_of}
use Rattle.ags_decimal.specs.Decimal.{Parts}
use Rattle.ags_decimal.specs.Reading as decimal
use Rattle.ags_card.specs.declared.cards.Card.{Card}
use Rattle.ags_card.specs.declared.cards.Body.{Body}
use Rattle.ags_card.specs.declared.cards.Body.TheVariants as body
use Rattle.ags_card.specs.declared.cards.CardFault.{CardFault}
use Rattle.ags_card.specs.declared.cards.CardFault.TheVariants.{BadByte, LongCard, BadSymbol, UnknownOperation, MissingOperand, ExtraOperand, BadExpression, BadDecimal, BadOctal}
use Rattle.ags_card.specs.declared.operations.Operation.{Operation}
use Rattle.ags_card.specs.declared.operations.Operation.TheVariants as op
use Rattle.ags_card.specs.declared.terms.Atom.{Atom}
use Rattle.ags_card.specs.declared.terms.Atom.TheVariants.{Number, Here, Symbol}
use Rattle.ags_card.specs.declared.terms.Term.{Term}
use Rattle.ags_card.specs.Operation.{operation_named, is_bare}
use Rattle.ags_card.specs.Symbol.{is_symbol}
use Rattle.ags_card.specs.Spelling.{is_allowed, signed_word, comment_card}
use Rattle.ags_card.specs.Term.{zero_terms}

-- ---- expressions

-- what a text stands for as a term without its sign
unfoldable pub atom_reading : List ℕ → Option Atom
atom_reading text =
    if slice_index text 0 == 47 then option_map Number (number_of 8 6 (drop 1 text)) else (
    if pointwise nat_eq text (42 ∷ []) then Some Here else (
    if is_symbol text then Some (Symbol text) else option_map Number (number_of 10 6 text)))

-- a plus or a minus
abbrev pub is_sign : ℕ → Bool
is_sign b = b == 43 || b == 45

-- a term before others, where all are some
abbrev pub with_term : Bool → Option Atom → Option (List Term) → Option (List Term)
with_term minus (Some atom) (Some terms) = Some (record { minus = minus; atom = atom } ∷ terms)
with_term minus (Some atom) None = None
with_term minus None terms = None

-- the terms of a text after the bytes of a first one, whose sign is given
unfoldable pub terms_reading : (minus : Bool) (before text : List ℕ) → Option (List Term)
terms_reading minus before [] = with_term minus (atom_reading before) (Some [])
terms_reading minus before (b ∷ text) = if is_sign b then with_term minus (atom_reading before) (terms_reading (b == 45) [] text) else terms_reading minus (before ++ b ∷ []) text

-- the terms of an expression, and nothing for any other text
unfoldable pub expression_reading : List ℕ → Option (List Term)
expression_reading text = terms_reading (starts_with_minus text) [] (without_leading_sign text)

-- ---- operands

-- a fault where a test fails, and else what follows
abbrev pub checked : {T : Type 0} → Bool → CardFault → Result T CardFault → Result T CardFault
checked test fault next = if test then next else Err fault

-- what an answer makes where it is no fault
abbrev pub mapped : {T U : Type 0} → (T → U) → Result T CardFault → Result U CardFault
mapped f (Ok x) = Ok (f x)
mapped f (Err fault) = Err fault

-- the operand must be there
abbrev pub some_operand : {T : Type 0} → List ℕ → Result T CardFault → Result T CardFault
some_operand operand next = checked (nat_lt 0 (length operand)) MissingOperand next

-- and must be one alone
abbrev pub one_operand : {T : Type 0} → List ℕ → Result T CardFault → Result T CardFault
one_operand operand next = some_operand operand (checked (list_all (λ b. not (b == 44)) operand) ExtraOperand next)

-- whether an order's operand ends in the mark of the index
unfoldable pub is_indexed : List ℕ → Bool
is_indexed operand = nat_lt 1 (length operand) && (slice_index operand (length operand - 2) == 44 && slice_index operand (length operand - 1) == 49)

-- the operand without that mark
unfoldable pub without_index : List ℕ → List ℕ
without_index operand = if is_indexed operand then take (length operand - 2) operand else operand

-- the terms of an order's operand
unfoldable pub order_terms : List ℕ → Result (List Term) CardFault
order_terms operand = some_operand operand (ok_or (expression_reading (without_index operand)) BadExpression)

-- the terms of another operand
unfoldable pub plain_terms : List ℕ → Result (List Term) CardFault
plain_terms operand = one_operand operand (ok_or (expression_reading operand) BadExpression)

-- the word that an octal number with a sign or without writes
unfoldable pub octal_reading : List ℕ → Option ℕ
octal_reading text = option_map (signed_word (starts_with_minus text)) (number_of 8 6 (without_leading_sign text))

-- an element before others, where all are some
abbrev pub with_item : {X : Type 0} → Option X → Option (List X) → Option (List X)
with_item (Some x) (Some xs) = Some (x ∷ xs)
with_item (Some x) None = None
with_item None xs = None

-- what the texts between commas are read as, after the bytes of a first one, where each of them is something
unfoldable pub list_reading : {X : Type 0} → (List ℕ → Option X) → (before text : List ℕ) → Option (List X)
list_reading read before [] = with_item (read before) (Some [])
list_reading read before (b ∷ text) = if b == 44 then with_item (read before) (list_reading read [] text) else list_reading read (before ++ b ∷ []) text

-- the decimals of an operand
unfoldable pub decimal_operands : List ℕ → Result (List Parts) CardFault
decimal_operands operand = some_operand operand (ok_or (list_reading decimal.reading [] operand) BadDecimal)

-- the words of an operand
unfoldable pub octal_operands : List ℕ → Result (List ℕ) CardFault
octal_operands operand = some_operand operand (ok_or (list_reading octal_reading [] operand) BadOctal)

-- ---- cards

-- what a card asks for with this operation and this operand
abbrev pub body_reading : Operation → List ℕ → Result Body CardFault
body_reading (op.OfOrder order) operand =
    if is_bare order then Ok (body.Order order zero_terms false) else mapped (λ terms. body.Order order terms (is_indexed operand)) (order_terms operand)
body_reading op.Org operand = mapped body.Org (plain_terms operand)
body_reading op.Equ operand = mapped body.Equ (plain_terms operand)
body_reading op.Syn operand = mapped body.Equ (plain_terms operand)
body_reading op.Bss operand = mapped body.Bss (plain_terms operand)
body_reading op.Bes operand = mapped body.Bes (plain_terms operand)
body_reading op.Dec operand = mapped body.Dec (decimal_operands operand)
body_reading op.Oct operand = mapped body.Oct (octal_operands operand)
body_reading op.End operand = Ok body.End

-- whether a text is the name of EQU or SYN
abbrev pub names_value : List ℕ → Bool
names_value operation = pointwise nat_eq operation (codes "EQU") || pointwise nat_eq operation (codes "SYN")

-- what stands in the symbol field fits the operation: a symbol, or nothing where the operation is not EQU or SYN
abbrev pub fits_symbol : (symbol operation : List ℕ) → Bool
fits_symbol symbol operation = if length symbol == 0 then not (names_value operation) else is_symbol symbol

-- the symbol of a symbol field
abbrev pub symbol_of : List ℕ → Option (List ℕ)
symbol_of symbol = if is_symbol symbol then Some symbol else None

-- what a card asks for with this operation, where that is one
abbrev pub operation_reading : Option Operation → List ℕ → Result Body CardFault
operation_reading None operand = Err UnknownOperation
operation_reading (Some operation) operand = body_reading operation operand

-- the card of three fields
unfoldable pub fields_reading : (symbol operation operand : List ℕ) → Result Card CardFault
fields_reading symbol operation operand =
    checked (fits_symbol symbol operation) BadSymbol
    (mapped (λ body. record { symbol = symbol_of symbol; body = body }) (operation_reading (operation_named operation) operand))

-- the symbol field of a line: what stands before its first blank
abbrev pub symbol_field : List ℕ → List ℕ
symbol_field line = leading_field line

-- its operation: the next field
abbrev pub operation_field : List ℕ → List ℕ
operation_field line = next_field (behind_leading_field line)

-- its operand: the field after that
abbrev pub operand_field : List ℕ → List ℕ
operand_field line = next_field (behind_field (behind_leading_field line))

-- whether a line is a comment
abbrev pub is_comment : List ℕ → Bool
is_comment line = slice_index line 0 == 42 || list_all is_blank line

-- the card that a line is, or its least fault
unfoldable pub reading : List ℕ → Result Card CardFault
reading line =
    checked (list_all is_allowed line) BadByte (checked (nat_lt (length line) 121) LongCard
    (if is_comment line then Ok comment_card else fields_reading (symbol_field line) (operation_field line) (operand_field line)))
