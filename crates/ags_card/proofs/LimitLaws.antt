-- What holds of each card that a line spells: its symbol, its limits, and the orders without an operand.
--
-- The lemmas that the crates above may cite, each of them behind a clause of `reading_laws.rt`: card_limits,
-- card_symbol, equ_has_symbol, comment_no_symbol and bare_order.
use Rattle.std.proofs.Common.{◌≡◌, ℕ, ◌+◌, ◌*◌, ◌^◌, ◌<◌, ◌≤◌, Bool, true, false, List, [], ◌∷◌, ◌++◌, length, Option, Some, None, unwrap_or, refl, sym, ap, ◌∙◌, ◌⊎◌, inl, inr, arith}
use Rattle.std.specs.Prelude.{All, IfSome, IsSome, Ok, neg_ℤ, pos}
use Rattle.std.proofs.lemmas.Bool.{true≢false}
use Rattle.std.proofs.lemmas.List.{length-append}
use Rattle.std.proofs.lemmas.List.Elements.{All-nil, All-cons}
use Rattle.ags_text.proofs.NumberLaws.{number_below}
use Rattle.ags_word.proofs.WordLaws.{wrap_below}
use Rattle.ags_decimal.specs.Decimal.{IsWithinLimits}
use Rattle.ags_decimal.specs.Spelling.{Spells}
use Rattle.ags_isa.specs.declared.orders.Order.{Order}
use Rattle.ags_card.specs.declared.cards.Card.{Card}
use Rattle.ags_card.specs.declared.cards.Body.{Body}
use Rattle.ags_card.specs.declared.cards.Body.TheVariants as body
use Rattle.ags_card.specs.declared.operations.Operation.{Operation}
use Rattle.ags_card.specs.declared.operations.Operation.TheVariants as op
use Rattle.ags_card.specs.declared.terms.Atom.{Atom}
use Rattle.ags_card.specs.declared.terms.Atom.TheVariants.{Number, Here, Symbol}
use Rattle.ags_card.specs.declared.terms.Term.{Term}
use Rattle.ags_card.specs.Operation.{operation_name, gives_value, is_bare}
use Rattle.ags_card.specs.Symbol.{IsSymbol}
use Rattle.ags_card.specs.Term.{HasSmallNumber, AreTerms, zero_terms}
use Rattle.ags_card.specs.Limit.{KeepsLimits}
use Rattle.ags_card.specs.Spelling.{IsAtom, sign_byte, IsSum, IsExpression, index_mark, signed_word, IsOctalOperand, IsOrder, IsWritten, FitsSymbol, WritesCard}
use Rattle.ags_card.specs.Reading.{operand_field, reading}
use Rattle.ags_card.proofs.NumberLemmas.{small_decimal}
use Rattle.ags_card.proofs.TermLemmas.{operand_short}
use Rattle.ags_card.proofs.ExpressionLaws.{atom_some}
use Rattle.ags_card.proofs.ListLaws.{list_few, list_some, list_each}
use Rattle.ags_card.proofs.OperandLaws.{decimal_length, octal_some}
use Rattle.ags_card.proofs.FieldLemmas.{fields_read}
use Rattle.ags_card.proofs.CardLaws.{reading-spells}

-- ---- terms

small_atom : (text : List ℕ) (atom : Atom) → IsAtom text atom → HasSmallNumber atom
small_atom text (Number number) (inl octal) = let below : number < 8 ^ 6 = number_below 8 6 octal.0 number (omega arith) octal.2 in omega (arith, below)
small_atom text (Number number) (inr decimal) = small_decimal text number decimal
small_atom text Here is = tt
small_atom text (Symbol name) is = tt

small_sum : (terms : List Term) (text : List ℕ) → IsSum text terms → All (λ term. HasSmallNumber term.atom) terms
small_sum [] text is = absurd is
small_sum (term ∷ []) text is = All-cons (λ t. HasSmallNumber t.atom) term [] (small_atom text term.atom is) (All-nil (λ t. HasSmallNumber t.atom))
small_sum (term ∷ next ∷ terms) text is = All-cons (λ t. HasSmallNumber t.atom) term (next ∷ terms) (small_atom is.0 term.atom is.3) (small_sum (next ∷ terms) is.1 is.4)

-- a term takes two bytes, with the sign before the next one
few_sum : (terms : List Term) (text : List ℕ) → IsSum text terms → 2 * length terms ≤ length text + 1
few_sum [] text is = absurd is
few_sum (term ∷ []) text is = omega (arith, atom_some text term.atom is)
few_sum (term ∷ next ∷ terms) text is =
    let rest = few_sum (next ∷ terms) is.1 is.4 in
    omega (arith, ap length is.2, length-append is.0 (sign_byte next.minus ∷ is.1), atom_some is.0 term.atom is.3, rest)

terms_of : (text : List ℕ) (terms : List Term) → length text ≤ 120 → IsExpression text terms → AreTerms terms
terms_of text [] short is = absurd is
terms_of text (term ∷ terms) short is =
    let few = few_sum (term ∷ terms) is.1 is.4 in
    record { some = omega arith; most = omega (arith, few, ap length is.2, length-append is.0 is.1, short); small = small_sum (term ∷ terms) is.1 is.4 }

zero_are : AreTerms zero_terms
zero_are = record {
  some = omega arith;
  most = omega arith;
  small = All-cons (λ t. HasSmallNumber t.atom) (record { minus = false; atom = Number 0 }) [] (omega arith) (All-nil (λ t. HasSmallNumber t.atom));
}

order_terms_of : (bare : Bool) (terms : List Term) (indexed : Bool) (operands : List (List ℕ)) → ((operand : List ℕ) → operands ≡ operand ∷ [] → length operand ≤ 120)
    → IsOrder bare terms indexed operands → AreTerms terms
order_terms_of true terms indexed operands short is = rw (is.0) zero_are
order_terms_of false terms indexed operands short is =
    let whole = short is.0 is.1 in
    terms_of is.2.0 terms (omega (arith, whole, ap length is.2.1, length-append is.2.0 (index_mark indexed))) is.2.2

-- ---- words

octal_word : (operand : List ℕ) (word : ℕ) → IsOctalOperand operand word → word < 2 ^ 18
octal_word operand word is = rw (is.word_is) (signed_below is.negative)
  where
    signed_below : (negative : Bool) → signed_word negative is.number < 2 ^ 18
    signed_below true = wrap_below (neg_ℤ (pos is.number))
    signed_below false = let below : is.number < 8 ^ 6 = number_below 8 6 is.digits is.number (omega arith) is.is_octal in omega (arith, below)

-- ---- cards

body_limits : (asked : Body) (operation : Operation) (operands : List (List ℕ)) → ((operand : List ℕ) → operands ≡ operand ∷ [] → length operand ≤ 120) → IsWritten asked operation operands → KeepsLimits asked
body_limits body.Comment operation operands short is = tt
body_limits (body.Order order terms indexed) operation operands short is = order_terms_of (is_bare order) terms indexed operands short is.1
body_limits (body.Org terms) operation operands short is = terms_of is.1.0 terms (short is.1.0 is.1.1) is.1.2
body_limits (body.Equ terms) operation operands short is = terms_of is.1.0 terms (short is.1.0 is.1.1) is.1.2
body_limits (body.Bss terms) operation operands short is = terms_of is.1.0 terms (short is.1.0 is.1.1) is.1.2
body_limits (body.Bes terms) operation operands short is = terms_of is.1.0 terms (short is.1.0 is.1.1) is.1.2
body_limits (body.Dec numbers) operation operands short is =
    let few = list_few Spells decimal_length numbers is.1.0 is.1.2 in
    (record { some = list_some Spells numbers is.1.0 is.1.2; most = omega (arith, few, short is.1.0 is.1.1) }, list_each Spells IsWithinLimits (λ text number spells. spells.limits) numbers is.1.0 is.1.2)
body_limits (body.Oct words) operation operands short is =
    let few = list_few IsOctalOperand octal_some words is.1.0 is.1.2 in
    (record { some = list_some IsOctalOperand words is.1.0 is.1.2; most = omega (arith, few, short is.1.0 is.1.1) }, list_each IsOctalOperand (λ word. word < 2 ^ 18) octal_word words is.1.0 is.1.2)
body_limits body.End operation operands short is = tt

-- the operand of a card is no longer than its line
operand_within : (line : List ℕ) (card : Card) (writes : WritesCard line card) → length line ≤ 120 → (operand : List ℕ) → writes.operands ≡ operand ∷ [] → length operand ≤ 120
operand_within line card writes short operand is =
    let read = fields_read line (unwrap_or card.symbol []) (operation_name writes.operation ∷ (writes.operands ++ writes.remark)) writes.fields in
    let same : operand_field line ≡ operand = rw is at (read.read.operand) in
    omega (arith, ap length same, operand_short line, short)

pub card_limits : (line : List ℕ) (card : Card) → reading line ≡ Ok card → KeepsLimits card.body
card_limits line card is =
    let spells = reading-spells line card is in
    elim spells.states [
      | inl comment ↦ rw (comment.0) tt
      | inr writes ↦ body_limits card.body writes.operation writes.operands (operand_within line card writes spells.most) writes.written
    ]

symbol_is : (symbol : Option (List ℕ)) (operation : Operation) → FitsSymbol symbol operation → IfSome symbol IsSymbol
symbol_is None operation fits = tt
symbol_is (Some symbol) operation fits = fits

pub card_symbol : (line : List ℕ) (card : Card) → reading line ≡ Ok card → IfSome card.symbol IsSymbol
card_symbol line card is =
    elim ((reading-spells line card is).states) [
      | inl comment ↦ rw (comment.0) tt
      | inr writes ↦ symbol_is card.symbol writes.operation writes.fits
    ]

equ_symbol : (symbol : Option (List ℕ)) (operation : Operation) → FitsSymbol symbol operation → gives_value operation ≡ true → IsSome symbol
equ_symbol None operation fits is = absurd (true≢false (sym is ∙ fits))
equ_symbol (Some symbol) operation fits is = refl

pub equ_has_symbol : (line : List ℕ) (card : Card) (terms : List Term) → reading line ≡ Ok card → card.body ≡ body.Equ terms → IsSome card.symbol
equ_has_symbol line card terms is asks =
    elim ((reading-spells line card is).states) [
      | inl comment ↦ let both : body.Equ terms ≡ body.Comment = sym asks ∙ ap (λ (c : Card). c.body) comment.0 in absurd (cc)
      | inr writes ↦ let written = rw asks at writes.written in equ_symbol card.symbol writes.operation writes.fits (gives writes.operation written.0)
    ]
  where
    gives : (operation : Operation) → (operation ≡ op.Equ) ⊎ (operation ≡ op.Syn) → gives_value operation ≡ true
    gives operation (inl equ) = rw equ refl
    gives operation (inr syn) = rw syn refl

pub comment_no_symbol : (line : List ℕ) (card : Card) → reading line ≡ Ok card → card.body ≡ body.Comment → card.symbol ≡ None
comment_no_symbol line card is asks =
    elim ((reading-spells line card is).states) [
      | inl comment ↦ ap (λ (c : Card). c.symbol) comment.0
      | inr writes ↦ absurd (rw asks at writes.written)
    ]

bare_terms : (bare : Bool) (terms : List Term) (indexed : Bool) (operands : List (List ℕ)) → IsOrder bare terms indexed operands → bare ≡ true → (terms ≡ zero_terms) × (indexed ≡ false)
bare_terms true terms indexed operands is bare = (is.0, is.1)
bare_terms false terms indexed operands is bare = absurd (cc)

pub bare_order : (line : List ℕ) (card : Card) (order : Order) (terms : List Term) (indexed : Bool) → reading line ≡ Ok card → card.body ≡ body.Order order terms indexed → is_bare order ≡ true
    → (terms ≡ zero_terms) × (indexed ≡ false)
bare_order line card order terms indexed is asks bare =
    elim ((reading-spells line card is).states) [
      | inl comment ↦ let both : body.Order order terms indexed ≡ body.Comment = sym asks ∙ ap (λ (c : Card). c.body) comment.0 in absurd (cc)
      | inr writes ↦ let written = rw asks at writes.written in bare_terms (is_bare order) terms indexed writes.operands written.1 bare
    ]
