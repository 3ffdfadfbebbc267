use Rattle.std.proofs.Common.{◌≡◌, ℕ, List, [], ◌∷◌, Option, Some, None, Bool, true, false, not, cond, find, nat_eq, subst, refl, sym, ◌∙◌, ap}
use Rattle.std.specs.Prelude.{IfSome, ◌&&◌}
use Rattle.std.specs.List.{list_all}
use Rattle.std.specs.Cmp.Lexicographic.{pointwise, same_text}
use Rattle.std.proofs.lemmas.Slice.Eq.{bytes_eq-Decides}
use Rattle.ags_isa.specs.declared.orders.Order.{Order}
use Rattle.ags_isa.specs.Order.{all_orders, order_name}
use Rattle.ags_isa.proofs.OrderLemmas.{order_name-injective, each_order}
use Rattle.ags_isa.proofs.orders.order_named.Goals as goal

has_name : List ℕ → Order → Bool
has_name text order = pointwise nat_eq (order_name order) text

found_step : (text : List ℕ) (order : Order) (later : Option Order) (b : Bool) → b ≡ has_name text order → IfSome later (λ o. order_name o ≡ text)
    → IfSome (cond b (Some order) later) (λ o. order_name o ≡ text)
unfolding has_name
found_step text order later true same is = same_text (order_name order) text same
found_step text order later false other is = is

-- what is found has the name
found : (text : List ℕ) (orders : List Order) → IfSome (find (has_name text) orders) (λ o. order_name o ≡ text)
found text [] = tt
found text (order ∷ orders) = found_step text order (find (has_name text) orders) (has_name text order) refl (found text orders)

none_step : (order : Order) (later : Option Order) (others b : Bool) → cond b (Some order) later ≡ None → (later ≡ None → others ≡ true) → (not b && others) ≡ true
none_step order later others true none rest = absurd cc
none_step order later others false none rest = rest none

-- where nothing is found, none has the name
none_found : (text : List ℕ) (orders : List Order) → find (has_name text) orders ≡ None → list_all (λ o. not (has_name text o)) orders ≡ true
none_found text [] none = refl
none_found text (order ∷ orders) none =
    none_step order (find (has_name text) orders) (list_all (λ o. not (has_name text o)) orders) (has_name text order) none (none_found text orders)

not_true : (b : Bool) → b ≡ true → not b ≡ true → ⊥
not_true true same other = cc
not_true false same other = cc

-- an order that has the name is the one that is found
only : (text : List ℕ) (order : Order) (answer : Option Order) → order_name order ≡ text → answer ≡ find (has_name text) all_orders → IfSome answer (λ o. order_name o ≡ text) → answer ≡ Some order
unfolding has_name
only text order None name is has = absurd (not_true (has_name text order) ((bytes_eq-Decides (order_name order) text).1 name)
    (each_order (λ o. not (has_name text o)) (none_found text all_orders (sym is)) order))
only text order (Some other) name is has = ap Some (order_name-injective other order (has ∙ sym name))

found_first : (text : List ℕ) → IfSome (find (λ order. pointwise nat_eq (order_name order) text) all_orders) (λ o. order_name o ≡ text)
unfolding has_name
found_first text = found text all_orders

only_first : (text : List ℕ) (answer : Option Order) → answer ≡ find (λ order. pointwise nat_eq (order_name order) text) all_orders → IfSome answer (λ o. order_name o ≡ text)
    → (order : Order) → order_name order ≡ text → answer ≡ Some order
unfolding has_name
only_first text answer is has order name = only text order answer name is has

pub returns-clause-found : goal.returns-clause-found
returns-clause-found c = subst (λ (answer : Option Order). IfSome answer (λ o. order_name o ≡ c.args.text.now)) (sym c.first_named.ensures) (found_first c.args.text.now)

pub returns-clause-only : goal.returns-clause-only
returns-clause-only c = only_first c.args.text.now c.first_named.result c.first_named.ensures (returns-clause-found c)
