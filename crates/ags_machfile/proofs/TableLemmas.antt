-- The tables of codes and times: how one is filled, order by order, and that codes without a pair are a table.
use Rattle.std.proofs.Common.{◌≡◌, ◌≢◌, ℕ, zero, suc, ◌+◌, ◌<◌, ◌≤◌, ◌==◌, false, List, [], ◌∷◌, length, get_or, take, drop, set, map, refl, sym, ◌∙◌, inl, inr, arith, All, AllPairs}
use Rattle.std.specs.Prelude.{Result, Ok, Err, Option, Some, None, option_map}
use Rattle.std.specs.Option.{option_or}
use Rattle.std.proofs.lemmas.Bool.{cases_Bool}
use Rattle.std.proofs.lemmas.Bool.Decides.{nat_tests}
use Rattle.std.proofs.lemmas.List.Kept.{AllPairs-cons}
use Rattle.std.proofs.lemmas.List.{get_or_default, drop_more, drop_all, take_all, take_more_set, length-set}
use Rattle.ags_isa.specs.declared.orders.Order.{Order}
use Rattle.ags_isa.specs.Order.{all_orders, order_number}
use Rattle.ags_isa.proofs.OrderLemmas.{order_at_number, number_at}
use Rattle.ags_isa.specs.declared.orders.Order.TheVariants.{Abs}
use Rattle.ags_isa.specs.Code.{AreCodes, code_of}
use Rattle.ags_machfile.specs.declared.mach_error.MachError.{MachError}
use Rattle.ags_machfile.specs.Value.{collected}
use Rattle.ags_machfile.specs.OrderTable.{all_numbers, order_with_code_of, first_pair, shared_pair}

collected-next : (f : Order → Result ℕ MachError) (orders : List Order) (numbers : List ℕ) (position number : ℕ) (order : Order)
    → position < length orders → position < length numbers → order ≡ get_or orders position order → f order ≡ Ok number
    → collected (take position numbers) (map f (drop position orders)) ≡ collected (take (position + 1) (set numbers position number))
    (map f (drop (position + 1) orders))
collected-next f orders numbers position number order within room at is =
    rw (drop_more orders position order within, ← at, is, take_more_set numbers position number room) refl

collected-fault : (f : Order → Result ℕ MachError) (orders : List Order) (earlier : List ℕ) (position : ℕ) (order : Order) (fault : MachError)
    → position < length orders → order ≡ get_or orders position order → f order ≡ Err fault
    → collected earlier (map f (drop position orders)) ≡ Err fault
collected-fault f orders earlier position order fault within at is = rw (drop_more orders position order within, ← at, is) refl

stands : (order : Order) (position : ℕ) → order_number order ≡ position → order ≡ get_or all_orders position order
stands order position at = rw (← at) (sym (order_at_number order order))

-- the numbers of the orders before this position stand in the array, and those of the others are what is left to find
pub record IsFilled (f : Order → Result ℕ MachError) (numbers : List ℕ) (position : ℕ) : Type 0 where
  pub long : length numbers ≡ 27
  pub rest : all_numbers f ≡ collected (take position numbers) (map f (drop position all_orders))

pub filled_none : (f : Order → Result ℕ MachError) (numbers : List ℕ) → length numbers ≡ 27 → IsFilled f numbers 0
unfolding all_numbers
filled_none f numbers long = record { long = long; rest = refl }

pub filled_more : (f : Order → Result ℕ MachError) (numbers : List ℕ) (position number : ℕ) (order : Order) → position < 27
    → order_number order ≡ position → f order ≡ Ok number → IsFilled f numbers position → IsFilled f (set numbers position number) (position + 1)
filled_more f numbers position number order within at is filled = record {
  long = length-set numbers position number ∙ filled.long;
  rest = filled.rest ∙ collected-next f all_orders numbers position number order within (rw filled.long within) (stands order position at) is;
}

pub filled_fault : (f : Order → Result ℕ MachError) (numbers : List ℕ) (position : ℕ) (order : Order) (fault : MachError) → position < 27
    → order_number order ≡ position → f order ≡ Err fault → IsFilled f numbers position → all_numbers f ≡ Err fault
filled_fault f numbers position order fault within at is filled =
    filled.rest ∙ collected-fault f all_orders (take position numbers) position order fault within (stands order position at) is

pub filled_whole : (f : Order → Result ℕ MachError) (numbers : List ℕ) (position : ℕ) → 27 ≤ position → IsFilled f numbers position
    → all_numbers f ≡ Ok numbers
filled_whole f numbers position past filled =
    filled.rest ∙ rw (take_all position numbers (rw filled.long past), drop_all position all_orders past) refl

-- ---- orders that share no code

All-cons : {X : Type 0} (P : X → Type 0) (x : X) (xs : List X) → P x → All P xs → All P (x ∷ xs)
All-cons P x xs here more zero d within = here
All-cons P x xs here more (suc k) d within = more k d (omega (arith, within))

-- none of the others has an order's code, where none is found
pub unfound : (table : List ℕ) (order : Order) (others : List Order) → order_with_code_of table order others ≡ None
    → All (λ other. code_of table order ≢ code_of table other) others
unfound table order [] none = λ k d within. absurd (omega (arith, within))
unfound table order (other ∷ others) none =
    elim (cases_Bool (code_of table other == code_of table order)) [
      | inl same ↦ absurd (some_is_none other (sym (rw same at none)))
      | inr differs ↦ All-cons (λ one. code_of table order ≢ code_of table one) other others (λ same. true_is_false (code_of table order) (rw (← same) at differs)) (unfound table order others (rw differs at none))
    ]
  where
    some_is_none : (other : Order) → None ≡ Some other → ⊥
    some_is_none other h = cc

    true_is_false : (n : ℕ) → (n == n) ≡ false → ⊥
    true_is_false n h = grind (arith, nat_tests, h)

-- no two of the orders have one code, where there is no first pair
pub unpaired : (table : List ℕ) (orders : List Order) → first_pair table orders ≡ None
    → AllPairs (λ one another. code_of table one ≢ code_of table another) orders
unpaired table [] none = λ i j d before within. absurd (omega (arith, within))
unpaired table (order ∷ others) none =
    let parts = neither (order_with_code_of table order others) (first_pair table others) none in
    AllPairs-cons (λ one another. code_of table one ≢ code_of table another) order others (unfound table order others parts.0) (unpaired table others parts.1)
  where
    some_is_none : (pair : Order × Order) → Some pair ≡ None → ⊥
    some_is_none pair h = cc

    neither : (found : Option Order) (rest : Option (Order × Order)) → option_or (option_map (λ other. (order, other)) found) rest ≡ None → (found ≡ None) × (rest ≡ None)
    neither None rest none = (refl, none)
    neither (Some other) rest none = absurd (some_is_none (order, other) none)

distinct_positions : (table : List ℕ) (orders : List Order) → ((number : ℕ) (other : Order) → number < 27 → order_number (get_or orders number other) ≡ number) → length orders ≡ 27
    → length table ≡ 27 → AllPairs (λ one another. code_of table one ≢ code_of table another) orders → AllPairs (λ one another. one ≢ another) table
distinct_positions table orders at count long pairs i j d before within same =
    let j_below : j < 27 = omega (arith, within, long) in
    let i_below : i < 27 = omega (arith, before, j_below) in
    pairs i j Abs before (omega (arith, j_below, count)) (rw (at i Abs i_below, at j Abs j_below) (get_or_default table i 0 d (omega (arith, i_below, long)) ∙ same ∙ get_or_default table j d 0 within))

-- codes below 32 of which no two orders share one are a table of codes
pub unshared_are_codes : (table : List ℕ) → length table ≡ 27 → All (λ code. code < 32) table → shared_pair table ≡ None → AreCodes table
unfolding shared_pair
unshared_are_codes table long below none = record {
  each = long;
  below = below;
  distinct = distinct_positions table all_orders number_at refl long (unpaired table all_orders none);
}
