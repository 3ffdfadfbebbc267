-- Operations and their names.
use Rattle.std.proofs.Common.{◌≡◌, ℕ, ◌<◌, length, Bool, true, false, not, List, [], ◌∷◌, Option, Some, None, refl, sym, ap, ◌∙◌, nat_eq, codes, inl, inr}
use Rattle.std.specs.Prelude.{IfSome}
use Rattle.std.specs.List.{find}
use Rattle.std.specs.Cmp.Lexicographic.{pointwise, same_text}
use Rattle.std.proofs.lemmas.Bool.{cases_Bool, or_from, true≢false, false_from_ne_true}
use Rattle.ags_text.proofs.Deciding.{same_answer}
use Rattle.ags_isa.specs.declared.orders.Order.{Order}
use Rattle.ags_isa.specs.declared.orders.Order.TheVariants.{Abs, Add, Adz, Als, Axt, Cla, Clz, Com, Dly, Dvp, Inp, Ldq, Lls, Lrs, Mpr, Mpy, Mpz, Out, Sto, Stq, Sub, Suz, Tix, Tmi, Tov, Tra, Tsq}
use Rattle.ags_isa.specs.Order.{order_name}
use Rattle.ags_card.specs.declared.operations.Operation.{Operation}
use Rattle.ags_card.specs.declared.operations.Operation.TheVariants as op
use Rattle.ags_card.specs.Operation.{operation_name, operation_named, all_operations, gives_value}
use Rattle.ags_card.specs.Reading.{names_value}
use Rattle.ags_card.proofs.ByteLemmas.{list_cases}

-- what is found passes the test
found_passes : {X : Type 0} (p : X → Bool) (xs : List X) (x : X) → find p xs ≡ Some x → p x ≡ true
found_passes p [] x is = absurd (cc)
found_passes p (y ∷ xs) x is =
    elim (cases_Bool (p y)) [
      | inl passes ↦ let found = rw passes at is in let same : y ≡ x = (cc) in rw same at passes
      | inr fails ↦ found_passes p xs x (rw fails at is)
    ]

-- the operation that is found has the name
pub named_name : (text : List ℕ) (operation : Operation) → operation_named text ≡ Some operation → operation_name operation ≡ text
unfolding operation_named
named_name text operation is = same_text (operation_name operation) text (sym (found_passes (λ o. pointwise nat_eq (operation_name o) text) all_operations operation is))

-- the operation of an order's name is the order
order_named_name : (order : Order) → operation_named (order_name order) ≡ Some (op.OfOrder order)
unfolding operation_named
order_named_name Abs = refl
order_named_name Add = refl
order_named_name Adz = refl
order_named_name Als = refl
order_named_name Axt = refl
order_named_name Cla = refl
order_named_name Clz = refl
order_named_name Com = refl
order_named_name Dly = refl
order_named_name Dvp = refl
order_named_name Inp = refl
order_named_name Ldq = refl
order_named_name Lls = refl
order_named_name Lrs = refl
order_named_name Mpr = refl
order_named_name Mpy = refl
order_named_name Mpz = refl
order_named_name Out = refl
order_named_name Sto = refl
order_named_name Stq = refl
order_named_name Sub = refl
order_named_name Suz = refl
order_named_name Tix = refl
order_named_name Tmi = refl
order_named_name Tov = refl
order_named_name Tra = refl
order_named_name Tsq = refl

-- each operation is found by its name
pub name_named : (operation : Operation) → operation_named (operation_name operation) ≡ Some operation
unfolding operation_named
name_named (op.OfOrder order) = order_named_name order
name_named op.Org = refl
name_named op.Equ = refl
name_named op.Syn = refl
name_named op.Bss = refl
name_named op.Bes = refl
name_named op.Dec = refl
name_named op.Oct = refl
name_named op.End = refl

-- no operation has the empty name
nothing_named : operation_named [] ≡ None
unfolding operation_named
nothing_named = refl

pub name_some : (operation : Operation) → 0 < length (operation_name operation)
name_some operation =
    elim (list_cases (operation_name operation)) [
      | inl none ↦ let both : ◌≡◌ {A = Option Operation} None (Some operation) = sym nothing_named ∙ ap operation_named (sym none) ∙ name_named operation in absurd (cc)
      | inr some ↦ some
    ]

named : (text : List ℕ) (result : Option Operation) → IfSome result (λ operation. operation_name operation ≡ text)
    → ((operation : Operation) → operation_name operation ≡ text → result ≡ Some operation) → result ≡ operation_named text
named text result found only =
    same_answer (λ operation. operation_name operation ≡ text) result (operation_named text) found only (named_name text)
    (λ operation is. ap operation_named (sym is) ∙ name_named operation)

-- ---- the search for a name, among the orders first

-- a name of an order
pub of_order : (text : List ℕ) (order : Order) → order_name order ≡ text → Some (op.OfOrder order) ≡ operation_named text
of_order text order is = sym (ap operation_named (sym is) ∙ order_named_name order)

-- the first of the others that has a name
first_named : List ℕ → Option Operation
first_named text = find (λ operation. pointwise nat_eq (operation_name operation) text) (op.Org ∷ op.Equ ∷ op.Syn ∷ op.Bss ∷ op.Bes ∷ op.Dec ∷ op.Oct ∷ op.End ∷ [])

tells_name : (text : List ℕ) (found : Option Operation) → first_named text ≡ found → IfSome found (λ operation. operation_name operation ≡ text)
unfolding first_named
tells_name text None is = tt
tells_name text (Some operation) is =
    same_text (operation_name operation) text (sym (found_passes (λ o. pointwise nat_eq (operation_name o) text) (op.Org ∷ op.Equ ∷ op.Syn ∷ op.Bss ∷ op.Bes ∷ op.Dec ∷ op.Oct ∷ op.End ∷ []) operation is))

finds_name : (text : List ℕ) → ((order : Order) → order_name order ≡ text → ⊥) → (operation : Operation) → operation_name operation ≡ text → first_named text ≡ Some operation
unfolding first_named
finds_name text none (op.OfOrder order) is = absurd (none order is)
finds_name text none op.Org is = rw (sym is) refl
finds_name text none op.Equ is = rw (sym is) refl
finds_name text none op.Syn is = rw (sym is) refl
finds_name text none op.Bss is = rw (sym is) refl
finds_name text none op.Bes is = rw (sym is) refl
finds_name text none op.Dec is = rw (sym is) refl
finds_name text none op.Oct is = rw (sym is) refl
finds_name text none op.End is = rw (sym is) refl

-- a text that is no order's name
pub of_other : (text : List ℕ) (answer : Option Order) → answer ≡ None → ((order : Order) → order_name order ≡ text → answer ≡ Some order)
    → find (λ operation. pointwise nat_eq (operation_name operation) text) (op.Org ∷ op.Equ ∷ op.Syn ∷ op.Bss ∷ op.Bes ∷ op.Dec ∷ op.Oct ∷ op.End ∷ []) ≡ operation_named text
unfolding first_named
of_other text answer none only =
    named text (first_named text) (tells_name text (first_named text) refl)
    (finds_name text (λ order is. let both : ◌≡◌ {A = Option Order} None (Some order) = sym none ∙ only order is in absurd (cc)))

-- ---- the operations that give a value

-- two operations of one name are one
pub same_name : (operation other : Operation) → pointwise nat_eq (operation_name operation) (operation_name other) ≡ true → operation ≡ other
same_name operation other is =
    let name : operation_name operation ≡ operation_name other = same_text (operation_name operation) (operation_name other) (sym is) in
    let found : Some operation ≡ Some other = sym (name_named operation) ∙ ap operation_named name ∙ name_named other in
    (cc)

-- their names are EQU and SYN
pub value_named : (operation : Operation) → gives_value operation ≡ true → names_value (operation_name operation) ≡ true
value_named (op.OfOrder order) is = absurd (true≢false (sym is))
value_named op.Org is = absurd (true≢false (sym is))
value_named op.Equ is = refl
value_named op.Syn is = refl
value_named op.Bss is = absurd (true≢false (sym is))
value_named op.Bes is = absurd (true≢false (sym is))
value_named op.Dec is = absurd (true≢false (sym is))
value_named op.Oct is = absurd (true≢false (sym is))
value_named op.End is = absurd (true≢false (sym is))

-- and no other one's is
pub other_named : (operation : Operation) → gives_value operation ≡ false → names_value (operation_name operation) ≡ false
other_named operation other =
    or_from (pointwise nat_eq (operation_name operation) (codes "EQU")) (pointwise nat_eq (operation_name operation) (codes "SYN"))
    (false_from_ne_true (pointwise nat_eq (operation_name operation) (codes "EQU")) (λ is. true≢false (sym (ap gives_value (same_name operation op.Equ is)) ∙ other)))
    (false_from_ne_true (pointwise nat_eq (operation_name operation) (codes "SYN")) (λ is. true≢false (sym (ap gives_value (same_name operation op.Syn is)) ∙ other)))

pub not_value : (operation : Operation) → not (names_value (operation_name operation)) ≡ true → gives_value operation ≡ false
not_value operation is = false_from_ne_true (gives_value operation) (λ gives. true≢false (sym is ∙ ap not (value_named operation gives)))
