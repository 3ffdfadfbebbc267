-- The numbers of all orders, or the first fault: what is found is what is so, and what is so is found.
use Rattle.std.proofs.Common.{◌≡◌, ℕ, zero, suc, ◌<◌, List, [], ◌∷◌, ◌++◌, length, get_or, map, refl, sym, ap, ◌∙◌, inl, inr, arith, append_assoc, true≢false}
use Rattle.std.specs.Prelude.{Result, Ok, Err, IsOk, ⊤}
use Rattle.std.proofs.lemmas.Bool.{cases_lt}
use Rattle.std.proofs.lemmas.Grind.{same_number_lists}
use Rattle.ags_isa.specs.declared.orders.Order.{Order}
use Rattle.ags_isa.specs.declared.orders.Order.TheVariants.{Abs}
use Rattle.ags_isa.specs.Order.{all_orders, order_number}
use Rattle.ags_isa.proofs.OrderLemmas.{order_at_number, order_number-below, order_number-injective, number_at}
use Rattle.ags_machfile.specs.declared.mach_error.MachError.{MachError}
use Rattle.ags_machfile.specs.Value.{collected}
use Rattle.ags_machfile.specs.OrderTable.{all_numbers}
use Rattle.ags_machfile.specs.Rule.{AreNumbers, IsFirstFault}

pub ok_same : {A E : Type 0} (x y : A) → ◌≡◌ {A = Result A E} (Ok x) (Ok y) → x ≡ y
ok_same x y same = cc

pub err_same : {A E : Type 0} (x y : E) → ◌≡◌ {A = Result A E} (Err x) (Err y) → x ≡ y
err_same x y same = cc

pub ok_not_err : {A E : Type 0} (x : A) (y : E) → ◌≡◌ {A = Result A E} (Ok x) (Err y) → ⊥
ok_not_err x y same = cc

-- ---- the numbers of all orders

-- the numbers that these orders have, one for each
abbrev pub AllGive : (Order → Result ℕ MachError) → List Order → List ℕ → Type 0
AllGive f [] [] = ⊤
AllGive f (order ∷ orders) (number ∷ numbers) = (f order ≡ Ok number) × AllGive f orders numbers
AllGive f [] (number ∷ numbers) = ⊥
AllGive f (order ∷ orders) [] = ⊥

record AreCollected (f : Order → Result ℕ MachError) (earlier : List ℕ) (orders : List Order) (numbers : List ℕ) : Type 0 where
  more : List ℕ
  whole : numbers ≡ earlier ++ more
  give : AllGive f orders more

append-nil : (xs : List ℕ) → xs ≡ xs ++ []
append-nil [] = refl
append-nil (x ∷ xs) = ap (λ ys. x ∷ ys) (append-nil xs)

collected-step : (f : Order → Result ℕ MachError) (earlier : List ℕ) (order : Order) (orders : List Order) (numbers : List ℕ) (r : Result ℕ MachError) → f order ≡ r
    → ((n : ℕ) → collected (earlier ++ n ∷ []) (map f orders) ≡ Ok numbers → AreCollected f (earlier ++ n ∷ []) orders numbers)
    → collected earlier (r ∷ map f orders) ≡ Ok numbers → AreCollected f earlier (order ∷ orders) numbers
collected-step f earlier order orders numbers (Ok n) at rest is =
    let all = rest n is in
    record { more = n ∷ all.more; whole = all.whole ∙ append_assoc earlier (n ∷ []) all.more; give = (at, all.give) }
collected-step f earlier order orders numbers (Err fault) at rest is = absurd (ok_not_err numbers fault (sym is))

collected-ok : (f : Order → Result ℕ MachError) (earlier : List ℕ) (orders : List Order) (numbers : List ℕ) → collected earlier (map f orders) ≡ Ok numbers
    → AreCollected f earlier orders numbers
collected-ok f earlier [] numbers is = record { more = []; whole = sym (ok_same earlier numbers is) ∙ append-nil earlier; give = tt }
collected-ok f earlier (order ∷ orders) numbers is =
    collected-step f earlier order orders numbers (f order) refl (λ n. collected-ok f (earlier ++ n ∷ []) orders numbers) is

give_length : (f : Order → Result ℕ MachError) (orders : List Order) (numbers : List ℕ) → AllGive f orders numbers → length numbers ≡ length orders
give_length f [] [] give = refl
give_length f (order ∷ orders) (number ∷ numbers) give = ap suc (give_length f orders numbers give.1)
give_length f [] (number ∷ numbers) give = absurd give
give_length f (order ∷ orders) [] give = absurd give

give_at : (f : Order → Result ℕ MachError) (orders : List Order) (numbers : List ℕ) → AllGive f orders numbers → (k : ℕ) (d : Order) → k < length orders
    → f (get_or orders k d) ≡ Ok (get_or numbers k 0)
give_at f [] numbers give k d within = absurd (omega (arith, within))
give_at f (order ∷ orders) [] give k d within = absurd give
give_at f (order ∷ orders) (number ∷ numbers) give zero d within = give.0
give_at f (order ∷ orders) (number ∷ numbers) give (suc k) d within = give_at f orders numbers give.1 k d (omega (arith, within))

pub all_numbers-ok : (f : Order → Result ℕ MachError) (numbers : List ℕ) → all_numbers f ≡ Ok numbers → AreNumbers f numbers
unfolding all_numbers
all_numbers-ok f numbers is =
    let all = collected-ok f [] all_orders numbers is in
    record {
      count = rw all.whole (give_length f all_orders all.more all.give);
      each = λ order. rw all.whole (rw (order_at_number order order) at (give_at f all_orders all.more all.give (order_number order) order (order_number-below order)));
    }

-- the fault of the first of these orders that has one
record FailsAt (f : Order → Result ℕ MachError) (orders : List Order) (fault : MachError) : Type 0 where
  position : ℕ
  within : position < length orders
  fails : (d : Order) → f (get_or orders position d) ≡ Err fault
  before : (k : ℕ) (d : Order) → k < position → IsOk (f (get_or orders k d))

fails-later : (f : Order → Result ℕ MachError) (order : Order) (orders : List Order) (fault : MachError) → IsOk (f order) → FailsAt f orders fault → FailsAt f (order ∷ orders) fault
fails-later f order orders fault fine later = record {
  position = suc later.position;
  within = omega (arith, later.within);
  fails = later.fails;
  before = before;
}
  where
    before : (k : ℕ) (d : Order) → k < suc later.position → IsOk (f (get_or (order ∷ orders) k d))
    before zero d below = fine
    before (suc k) d below = later.before k d (omega (arith, below))

collected-err-step : (f : Order → Result ℕ MachError) (earlier : List ℕ) (order : Order) (orders : List Order) (fault : MachError) (r : Result ℕ MachError) → f order ≡ r
    → ((n : ℕ) → collected (earlier ++ n ∷ []) (map f orders) ≡ Err fault → FailsAt f orders fault)
    → collected earlier (r ∷ map f orders) ≡ Err fault → FailsAt f (order ∷ orders) fault
collected-err-step f earlier order orders fault (Ok n) at rest is = fails-later f order orders fault (rw at refl) (rest n is)
collected-err-step f earlier order orders fault (Err first) at rest is = record {
  position = 0;
  within = omega arith;
  fails = λ d. at ∙ ap Err (err_same {A = List ℕ} first fault is);
  before = λ k d below. absurd (omega (arith, below));
}

collected-err : (f : Order → Result ℕ MachError) (earlier : List ℕ) (orders : List Order) (fault : MachError) → collected earlier (map f orders) ≡ Err fault
    → FailsAt f orders fault
collected-err f earlier [] fault is = absurd (ok_not_err earlier fault is)
collected-err f earlier (order ∷ orders) fault is =
    collected-err-step f earlier order orders fault (f order) refl (λ n. collected-err f (earlier ++ n ∷ []) orders fault) is

pub all_numbers-err : (f : Order → Result ℕ MachError) (fault : MachError) → all_numbers f ≡ Err fault → IsFirstFault f fault
unfolding all_numbers
all_numbers-err f fault is =
    let first = collected-err f [] all_orders fault is in
    record {
      order = get_or all_orders first.position Abs;
      fails = first.fails Abs;
      earlier = λ other below.
          rw (order_at_number other other) at (first.before (order_number other) other (rw (number_at first.position Abs first.within) at below));
    }

-- numbers that the orders have are those that are found
same_numbers : (f : Order → Result ℕ MachError) (numbers others : List ℕ) → AreNumbers f numbers → AreNumbers f others → numbers ≡ others
same_numbers f numbers others are are_too =
    same_number_lists numbers others (are.count ∙ sym are_too.count)
    (λ k within.
    let below : k < 27 = omega (arith, within, are.count) in
    let order = get_or all_orders k Abs in
    let here : order_number order ≡ k = number_at k Abs below in
    rw (← here) (ok_same _ _ (sym (are.each order) ∙ are_too.each order)))

not_both : {A : Type 0} (r : Result A MachError) (fault : MachError) → IsOk r → r ≡ Err fault → ⊥
not_both (Ok x) fault fine is = ok_not_err x fault is
not_both (Err e) fault fine is = absurd (true≢false (sym fine))

pub numbers-are_found : (f : Order → Result ℕ MachError) (numbers : List ℕ) → AreNumbers f numbers → all_numbers f ≡ Ok numbers
numbers-are_found f numbers are = by_result (all_numbers f) refl
  where
    by_result : (r : Result (List ℕ) MachError) → all_numbers f ≡ r → all_numbers f ≡ Ok numbers
    by_result (Ok others) is = is ∙ ap Ok (same_numbers f others numbers (all_numbers-ok f others is) are)
    by_result (Err fault) is =
        let first = all_numbers-err f fault is in
        absurd (ok_not_err _ fault (sym (are.each first.order) ∙ first.fails))

-- two first faults are one
one_fault : (f : Order → Result ℕ MachError) (fault other : MachError) → IsFirstFault f fault → IsFirstFault f other → fault ≡ other
one_fault f fault other first first_too =
    elim (cases_lt (order_number first.order) (order_number first_too.order)) [
      | inl before ↦ absurd (not_both _ fault (first_too.earlier first.order before) first.fails)
      | inr not_before ↦
          elim (cases_lt (order_number first_too.order) (order_number first.order)) [
            | inl after ↦ absurd (not_both _ other (first.earlier first_too.order after) first_too.fails)
            | inr not_after ↦
                err_same fault other
                (sym first.fails ∙ ap f (order_number-injective first.order first_too.order (omega (arith, not_before, not_after))) ∙ first_too.fails)
          ]
    ]

pub fault-is_found : (f : Order → Result ℕ MachError) (fault : MachError) → IsFirstFault f fault → all_numbers f ≡ Err fault
fault-is_found f fault first = by_result (all_numbers f) refl
  where
    by_result : (r : Result (List ℕ) MachError) → all_numbers f ≡ r → all_numbers f ≡ Err fault
    by_result (Ok numbers) is = absurd (ok_not_err _ fault (sym ((all_numbers-ok f numbers is).each first.order) ∙ first.fails))
    by_result (Err other) is = is ∙ ap Err (one_fault f other fault (all_numbers-err f other is) first)
