-- How a card is written, forwards from the card to the lines that write it, and when a line has a fault: each fault by
-- a condition of its own.
use Rattle.std.specs.Prelude.{◌≡◌, ℕ, ◌<◌, ◌≤◌, ◌⊎◌, Bool, true, false, not, ◌&&◌, ◌||◌, ◌==◌, nat_lt, pos, neg_ℤ, List, [], ◌∷◌, ◌++◌, length, slice_index, Option, Some, None, unwrap_or, if◌then◌else◌, IsTrue, codes}
use Rattle.std.specs.List.{list_all}
use Rattle.ags_text.specs.Field.{AreBlanks, HasNoBlank, AreFields, Behind}
use Rattle.ags_text.specs.Numeral.{IsOctal, IsDecimal}
use Rattle.ags_word.specs.Word.{wrap}
use Rattle.ags_decimal.specs.Decimal.{Parts}
use Rattle.ags_decimal.specs.Spelling as decimal
use Rattle.ags_card.specs.declared.cards.Card.{Card}
use Rattle.ags_card.specs.declared.cards.Body.{Body}
use Rattle.ags_card.specs.declared.cards.Body.TheVariants as body
use Rattle.ags_card.specs.declared.cards.CardFault.{CardFault}
use Rattle.ags_card.specs.declared.cards.CardFault.TheVariants.{BadByte, LongCard, BadSymbol, UnknownOperation, MissingOperand, ExtraOperand, BadExpression, BadDecimal, BadOctal}
use Rattle.ags_card.specs.declared.operations.Operation.{Operation}
use Rattle.ags_card.specs.declared.operations.Operation.TheVariants as op
use Rattle.ags_card.specs.declared.terms.Atom.{Atom}
use Rattle.ags_card.specs.declared.terms.Atom.TheVariants.{Number, Here, Symbol}
use Rattle.ags_card.specs.declared.terms.Term.{Term}
use Rattle.ags_card.specs.Operation.{operation_name, gives_value, is_bare, takes_operand, takes_expression, takes_one}
use Rattle.ags_card.specs.Symbol.{IsSymbol}
use Rattle.ags_card.specs.Term.{zero_terms}

-- a byte that may stand on a card: a tab, or a character from the space to the tilde
abbrev pub is_allowed : ℕ → Bool
is_allowed b = b == 9 || (nat_lt 31 b && nat_lt b 127)

-- such a byte stands in the text
abbrev pub Holds : (ℕ → Bool) → List ℕ → Type 0
Holds test text = (front : List ℕ) × (b : ℕ) × (behind : List ℕ) × (text ≡ front ++ b ∷ behind) × (test b ≡ true)

-- ---- operands

-- A term without its sign: a number is a slash and octal digits, or decimal digits, six of them at most; the place of
-- the card is an asterisk.
abbrev pub IsAtom : List ℕ → Atom → Type 0
IsAtom text (Number number) = ((digits : List ℕ) × (text ≡ 47 ∷ digits) × IsOctal 6 digits number) ⊎ IsDecimal 6 text number
IsAtom text Here = text ≡ 42 ∷ []
IsAtom text (Symbol name) = (text ≡ name) × IsSymbol name

-- the sign before a term: a minus, or a plus
abbrev pub sign_byte : (minus : Bool) → ℕ
sign_byte true = 45
sign_byte false = 43

-- terms without the sign of the first one, and each other one after its sign
abbrev pub IsSum : List ℕ → List Term → Type 0
IsSum text [] = ⊥
IsSum text (term ∷ []) = IsAtom text term.atom
IsSum text (term ∷ next ∷ terms) = (atom : List ℕ) × (behind : List ℕ) × (text ≡ atom ++ sign_byte next.minus ∷ behind) × IsAtom atom term.atom × IsSum behind (next ∷ terms)

-- an expression: terms, where the first one's sign is left out or stands there, and a minus always does
abbrev pub IsExpression : List ℕ → List Term → Type 0
IsExpression text [] = ⊥
IsExpression text (term ∷ terms) = (sign : List ℕ) × (behind : List ℕ) × (text ≡ sign ++ behind) × decimal.IsSign term.minus sign × IsSum behind (term ∷ terms)

-- what stands after an order's expression where its index bit is set
abbrev pub index_mark : (indexed : Bool) → List ℕ
index_mark true = codes ",1"
index_mark false = []

-- the operand of an order: an expression, and after it the mark of the index or nothing
abbrev pub IsOrderOperand : List Term → (indexed : Bool) → List ℕ → Type 0
IsOrderOperand terms indexed operand = (expression : List ℕ) × (operand ≡ expression ++ index_mark indexed) × IsExpression expression terms

-- the word of an octal number: with a minus it is what is left of the negated number
abbrev pub signed_word : (negative : Bool) → ℕ → ℕ
signed_word negative number = if negative then wrap (neg_ℤ (pos number)) else number

-- an operand of OCT: a sign or none, and one to six octal digits
pub record IsOctalOperand (operand : List ℕ) (word : ℕ) : Type 0 where
  pub negative : Bool
  pub sign : List ℕ
  pub digits : List ℕ
  pub number : ℕ
  pub whole : operand ≡ sign ++ digits
  pub is_sign : decimal.IsSign negative sign
  pub is_octal : IsOctal 6 digits number
  pub word_is : word ≡ signed_word negative number

-- elements with a comma between each two
abbrev pub IsList : {X : Type 0} → (List ℕ → X → Type 0) → List ℕ → List X → Type 0
IsList Is text [] = ⊥
IsList Is text (x ∷ []) = Is text x
IsList Is text (x ∷ next ∷ xs) = (first : List ℕ) × (behind : List ℕ) × (text ≡ first ++ 44 ∷ behind) × Is first x × IsList Is behind (next ∷ xs)

-- there is one operand, and this holds of it
abbrev pub IsOne : (List ℕ → Type 0) → List (List ℕ) → Type 0
IsOne Is operands = (operand : List ℕ) × (operands ≡ operand ∷ []) × Is operand

-- the operands of an order: none of a bare one, which has the one term 0 and no index
abbrev pub IsOrder : (bare : Bool) → List Term → (indexed : Bool) → List (List ℕ) → Type 0
IsOrder true terms indexed operands = (terms ≡ zero_terms) × (indexed ≡ false) × (operands ≡ [])
IsOrder false terms indexed operands = IsOne (IsOrderOperand terms indexed) operands

-- the operation and the operands that write what a card asks for
abbrev pub IsWritten : Body → Operation → List (List ℕ) → Type 0
IsWritten body.Comment operation operands = ⊥
IsWritten (body.Order order terms indexed) operation operands = (operation ≡ op.OfOrder order) × IsOrder (is_bare order) terms indexed operands
IsWritten (body.Org terms) operation operands = (operation ≡ op.Org) × IsOne (λ operand. IsExpression operand terms) operands
IsWritten (body.Equ terms) operation operands = ((operation ≡ op.Equ) ⊎ (operation ≡ op.Syn)) × IsOne (λ operand. IsExpression operand terms) operands
IsWritten (body.Bss terms) operation operands = (operation ≡ op.Bss) × IsOne (λ operand. IsExpression operand terms) operands
IsWritten (body.Bes terms) operation operands = (operation ≡ op.Bes) × IsOne (λ operand. IsExpression operand terms) operands
IsWritten (body.Dec numbers) operation operands = (operation ≡ op.Dec) × IsOne (λ operand. IsList decimal.Spells operand numbers) operands
IsWritten (body.Oct words) operation operands = (operation ≡ op.Oct) × IsOne (λ operand. IsList IsOctalOperand operand words) operands
IsWritten body.End operation operands = (operation ≡ op.End) × (operands ≡ [])

-- ---- lines

-- The line is a symbol field, which is empty where column 1 is blank, and further fields, each after a gap of blanks.
-- After the last field only blanks stand.
pub record HasCardFields (line symbol : List ℕ) (fields : List (List ℕ)) : Type 0 where
  pub behind : List ℕ
  pub whole : line ≡ symbol ++ behind
  pub marks : HasNoBlank symbol
  pub are : AreFields fields
  pub further : Behind fields behind

-- a comment: a line of nothing but blanks, or one with an asterisk in column 1
abbrev pub IsComment : List ℕ → Type 0
IsComment line = AreBlanks line ⊎ (slice_index line 0 ≡ 42)

-- the card of a comment, which has no symbol
abbrev pub comment_card : Card
comment_card = record { symbol = None; body = body.Comment }

-- a card's symbol is one, and an EQU or a SYN has one
abbrev pub FitsSymbol : Option (List ℕ) → Operation → Type 0
FitsSymbol (Some symbol) operation = IsSymbol symbol
FitsSymbol None operation = gives_value operation ≡ false

-- the line has the card's symbol or none, its operation and its operands, and any remark after them
pub record WritesCard (line : List ℕ) (card : Card) : Type 0 where
  pub operation : Operation
  pub operands : List (List ℕ)
  pub remark : List (List ℕ)
  pub fields : HasCardFields line (unwrap_or card.symbol []) (operation_name operation ∷ (operands ++ remark))
  pub fits : FitsSymbol card.symbol operation
  pub written : IsWritten card.body operation operands

-- The line is a spelling of the card: at most 120 bytes, each of them allowed, which are a comment or write the card.
pub record Spells (line : List ℕ) (card : Card) : Type 0 where
  pub most : length line ≤ 120
  pub allowed : IsTrue (list_all is_allowed line)
  pub states : ((card ≡ comment_card) × IsComment line) ⊎ WritesCard line card

-- ---- faults

-- the line is no comment, and this holds of its symbol field and its further fields
pub record IsFaulty (Is : List ℕ → List (List ℕ) → Type 0) (line : List ℕ) : Type 0 where
  pub no_comment : IsComment line → ⊥
  pub symbol : List ℕ
  pub fields : List (List ℕ)
  pub has : HasCardFields line symbol fields
  pub is : Is symbol fields

-- the symbol field is no symbol, or it is empty and the operation is EQU or SYN
abbrev pub IsBadSymbol : List ℕ → List (List ℕ) → Type 0
IsBadSymbol symbol fields = ((0 < length symbol) × (IsSymbol symbol → ⊥))
    ⊎ ((symbol ≡ []) × (operation : Operation) × (gives_value operation ≡ true) × (others : List (List ℕ)) × (fields ≡ operation_name operation ∷ others))

-- the operation is missing, or it is none of the names
abbrev pub HasNoOperation : List ℕ → List (List ℕ) → Type 0
HasNoOperation symbol fields = (operation : Operation) (others : List (List ℕ)) → fields ≡ operation_name operation ∷ others → ⊥

-- an operation that takes an operand has none
abbrev pub HasNoOperand : List ℕ → List (List ℕ) → Type 0
HasNoOperand symbol fields = (operation : Operation) × (takes_operand operation ≡ true) × (fields ≡ operation_name operation ∷ [])

-- this holds of the operation and its operand
pub record HasOperand (Is : Operation → List ℕ → Type 0) (symbol : List ℕ) (fields : List (List ℕ)) : Type 0 where
  pub operation : Operation
  pub operand : List ℕ
  pub remark : List (List ℕ)
  pub are : fields ≡ operation_name operation ∷ operand ∷ remark
  pub is : Is operation operand

-- a comma stands in the operand of ORG, EQU, SYN, BSS or BES
abbrev pub HasComma : Operation → List ℕ → Type 0
HasComma operation operand = (takes_one operation ≡ true) × Holds (λ b. b == 44) operand

-- no terms are written by the operand of an order, ORG, EQU, SYN, BSS or BES
abbrev pub IsNoExpression : Operation → List ℕ → Type 0
IsNoExpression operation operand = (takes_expression operation ≡ true) × ((asked : Body) → IsWritten asked operation (operand ∷ []) → ⊥)

-- what stands in the text between two commas, or before the first or after the last
pub record IsPart (text part : List ℕ) : Type 0 where
  pub front : List ℕ
  pub behind : List ℕ
  pub whole : text ≡ front ++ (part ++ behind)
  pub begins : (front ≡ []) ⊎ ((before : List ℕ) × (front ≡ before ++ 44 ∷ []))
  pub ends : (behind ≡ []) ⊎ ((after : List ℕ) × (behind ≡ 44 ∷ after))
  pub alone : IsTrue (list_all (λ b. not (b == 44)) part)

-- some operand of a DEC, an empty one too, is no decimal
abbrev pub IsNoDecimal : Operation → List ℕ → Type 0
IsNoDecimal operation operand = (operation ≡ op.Dec) × (part : List ℕ) × IsPart operand part × ((number : Parts) → decimal.Spells part number → ⊥)

-- some operand of an OCT, an empty one too, is no octal number
abbrev pub IsNoOctal : Operation → List ℕ → Type 0
IsNoOctal operation operand = (operation ≡ op.Oct) × (part : List ℕ) × IsPart operand part × ((word : ℕ) → IsOctalOperand part word → ⊥)

-- the line has the fault
abbrev pub HasFault : List ℕ → CardFault → Type 0
HasFault line BadByte = Holds (λ b. not (is_allowed b)) line
HasFault line LongCard = 120 < length line
HasFault line BadSymbol = IsFaulty IsBadSymbol line
HasFault line UnknownOperation = IsFaulty HasNoOperation line
HasFault line MissingOperand = IsFaulty HasNoOperand line
HasFault line ExtraOperand = IsFaulty (HasOperand HasComma) line
HasFault line BadExpression = IsFaulty (HasOperand IsNoExpression) line
HasFault line BadDecimal = IsFaulty (HasOperand IsNoDecimal) line
HasFault line BadOctal = IsFaulty (HasOperand IsNoOctal) line

-- the number of a fault: of several the least is told
abbrev pub fault_number : CardFault → ℕ
fault_number BadByte = 1
fault_number LongCard = 2
fault_number BadSymbol = 3
fault_number UnknownOperation = 4
fault_number MissingOperand = 5
fault_number ExtraOperand = 6
fault_number BadExpression = 7
fault_number BadDecimal = 8
fault_number BadOctal = 9

-- what is printed of a fault: its number and its name
abbrev pub card_fault_text : CardFault → List ℕ
card_fault_text BadByte = codes "1 BadByte"
card_fault_text LongCard = codes "2 LongCard"
card_fault_text BadSymbol = codes "3 BadSymbol"
card_fault_text UnknownOperation = codes "4 UnknownOperation"
card_fault_text MissingOperand = codes "5 MissingOperand"
card_fault_text ExtraOperand = codes "6 ExtraOperand"
card_fault_text BadExpression = codes "7 BadExpression"
card_fault_text BadDecimal = codes "8 BadDecimal"
card_fault_text BadOctal = codes "9 BadOctal"

-- the line has the fault, and no other one with a lesser number
pub record IsLeastFault (line : List ℕ) (fault : CardFault) : Type 0 where
  pub has : HasFault line fault
  pub least : (other : CardFault) → HasFault line other → fault_number fault ≤ fault_number other
