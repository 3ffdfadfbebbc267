-- What a card asks for: what is read is what is written, both ways.
use Rattle.std.proofs.Common.{◌≡◌, ℕ, ◌<◌, ◌⊎◌, Bool, true, false, List, [], ◌∷◌, length, refl, inl, inr}
use Rattle.std.specs.Prelude.{Result, Ok}
use Rattle.std.proofs.lemmas.Bool.{cases_Bool}
use Rattle.ags_isa.specs.declared.orders.Order.{Order}
use Rattle.ags_card.specs.declared.cards.Body.{Body}
use Rattle.ags_card.specs.declared.cards.Body.TheVariants as body
use Rattle.ags_card.specs.declared.cards.CardFault.{CardFault}
use Rattle.ags_card.specs.declared.operations.Operation.{Operation}
use Rattle.ags_card.specs.declared.operations.Operation.TheVariants as op
use Rattle.ags_card.specs.declared.terms.Term.{Term}
use Rattle.ags_card.specs.Operation.{is_bare}
use Rattle.ags_card.specs.Term.{zero_terms}
use Rattle.ags_card.specs.Spelling.{IsWritten, IsOrder, IsOrderOperand}
use Rattle.ags_card.specs.Reading.{is_indexed, order_terms, plain_terms, decimal_operands, octal_operands, body_reading, mapped}
use Rattle.ags_card.proofs.ResultLemmas.{mapped_ok}
use Rattle.ags_card.proofs.OperandLaws.{order_spelled, order_read, plain_spelled, plain_read, decimal_spelled, decimal_read, octal_spelled, octal_read}

-- the operands are none, or this one, which is not empty
abbrev pub Stands : List (List ℕ) → List ℕ → Type 0
Stands operands operand = (operands ≡ []) ⊎ ((operands ≡ operand ∷ []) × (0 < length operand))

-- what is asked for is written by the operation and by its operand, where it takes one
pub record BodyIsWritten (asked : Body) (operation : Operation) (operand : List ℕ) : Type 0 where
  pub operands : List (List ℕ)
  pub written : IsWritten asked operation operands
  pub stands : Stands operands operand

-- an operand that is one alone writes what is made of what it is read as
one_written : {T : Type 0} {P : T → Type 0} (make : T → Body) (operation : Operation) (operand : List ℕ) (read : Result T CardFault) (asked : Body) → mapped make read ≡ Ok asked
    → ((x : T) → read ≡ Ok x → (0 < length operand) × P x) → ((x : T) → P x → IsWritten (make x) operation (operand ∷ [])) → BodyIsWritten asked operation operand
one_written make operation operand read asked is spelled writes =
    let found = mapped_ok make read asked is in
    let spells = spelled found.x found.result_is in
    rw (found.made) (record { operands = operand ∷ []; written = writes found.x spells.1; stands = inr (refl, spells.0) })

order_written : (order : Order) (operand : List ℕ) (asked : Body) → body_reading (op.OfOrder order) operand ≡ Ok asked → BodyIsWritten asked (op.OfOrder order) operand
order_written order operand asked is =
    elim (cases_Bool (is_bare order)) [
      | inl bare ↦
          let value : Ok (body.Order order zero_terms false) ≡ Ok asked = rw bare at is in
          let same : asked ≡ body.Order order zero_terms false = (cc) in
          rw same (record { operands = []; written = (refl, bare_order (is_bare order) bare); stands = inl refl })
      | inr other ↦
          one_written (λ terms. body.Order order terms (is_indexed operand)) (op.OfOrder order) operand (order_terms operand) asked (rw other at is) (order_spelled operand)
          (λ terms spells. (refl, given_order (is_bare order) terms other spells))
    ]
  where
    bare_order : (bare : Bool) → bare ≡ true → IsOrder bare zero_terms false []
    bare_order bare is = rw is (refl, refl, refl)

    given_order : (bare : Bool) (terms : List Term) → bare ≡ false → IsOrderOperand terms (is_indexed operand) operand → IsOrder bare terms (is_indexed operand) (operand ∷ [])
    given_order bare terms is spelled = rw is (operand, refl, spelled)

pub body_spelled : (operation : Operation) (operand : List ℕ) (asked : Body) → body_reading operation operand ≡ Ok asked → BodyIsWritten asked operation operand
body_spelled (op.OfOrder order) operand asked is = order_written order operand asked is
body_spelled op.Org operand asked is = one_written body.Org op.Org operand (plain_terms operand) asked is (plain_spelled operand) (λ terms spells. (refl, (operand, refl, spells)))
body_spelled op.Equ operand asked is = one_written body.Equ op.Equ operand (plain_terms operand) asked is (plain_spelled operand) (λ terms spells. (inl refl, (operand, refl, spells)))
body_spelled op.Syn operand asked is = one_written body.Equ op.Syn operand (plain_terms operand) asked is (plain_spelled operand) (λ terms spells. (inr refl, (operand, refl, spells)))
body_spelled op.Bss operand asked is = one_written body.Bss op.Bss operand (plain_terms operand) asked is (plain_spelled operand) (λ terms spells. (refl, (operand, refl, spells)))
body_spelled op.Bes operand asked is = one_written body.Bes op.Bes operand (plain_terms operand) asked is (plain_spelled operand) (λ terms spells. (refl, (operand, refl, spells)))
body_spelled op.Dec operand asked is = one_written body.Dec op.Dec operand (decimal_operands operand) asked is (decimal_spelled operand) (λ numbers spells. (refl, (operand, refl, spells)))
body_spelled op.Oct operand asked is = one_written body.Oct op.Oct operand (octal_operands operand) asked is (octal_spelled operand) (λ words spells. (refl, (operand, refl, spells)))
body_spelled op.End operand asked is =
    let same : asked ≡ body.End = (cc) in
    rw same (record { operands = []; written = (refl, refl); stands = inl refl })

-- the operand that is read is the first of the operands, where there is one
abbrev pub IsFirst : List (List ℕ) → List ℕ → Type 0
IsFirst [] operand = Unit {0}
IsFirst (first ∷ others) operand = operand ≡ first

first_is : (operands : List (List ℕ)) (first operand : List ℕ) → operands ≡ first ∷ [] → IsFirst operands operand → operand ≡ first
first_is [] first operand is stands = absurd (cc)
first_is (one ∷ others) first operand is stands = (cc)

order_is_read : (bare : Bool) (order : Order) (terms : List Term) (indexed : Bool) (operands : List (List ℕ)) (operand : List ℕ) → is_bare order ≡ bare
    → IsOrder bare terms indexed operands → IsFirst operands operand → body_reading (op.OfOrder order) operand ≡ Ok (body.Order order terms indexed)
order_is_read true order terms indexed operands operand bare is first = rw (bare, is.0, is.1) refl
order_is_read false order terms indexed operands operand bare is first =
    let same = first_is operands is.0 operand is.1 first in
    let read = order_read is.0 terms indexed is.2 in
    rw (bare, same, read.0, read.1) refl

pub body_read : (asked : Body) (operation : Operation) (operands : List (List ℕ)) (operand : List ℕ) → IsWritten asked operation operands → IsFirst operands operand
    → body_reading operation operand ≡ Ok asked
body_read body.Comment operation operands operand is first = absurd is
body_read (body.Order order terms indexed) operation operands operand is first = rw (is.0) (order_is_read (is_bare order) order terms indexed operands operand refl is.1 first)
body_read (body.Org terms) operation operands operand is first = rw (is.0, first_is operands is.1.0 operand is.1.1 first, plain_read is.1.0 terms is.1.2) refl
body_read (body.Equ terms) operation operands operand is first =
    let read = first_is operands is.1.0 operand is.1.1 first in
    elim (is.0) [
      | inl equ ↦ rw (equ, read, plain_read is.1.0 terms is.1.2) refl
      | inr syn ↦ rw (syn, read, plain_read is.1.0 terms is.1.2) refl
    ]
body_read (body.Bss terms) operation operands operand is first = rw (is.0, first_is operands is.1.0 operand is.1.1 first, plain_read is.1.0 terms is.1.2) refl
body_read (body.Bes terms) operation operands operand is first = rw (is.0, first_is operands is.1.0 operand is.1.1 first, plain_read is.1.0 terms is.1.2) refl
body_read (body.Dec numbers) operation operands operand is first = rw (is.0, first_is operands is.1.0 operand is.1.1 first, decimal_read is.1.0 numbers is.1.2) refl
body_read (body.Oct words) operation operands operand is first = rw (is.0, first_is operands is.1.0 operand is.1.1 first, octal_read is.1.0 words is.1.2) refl
body_read body.End operation operands operand is first = rw (is.0) refl
