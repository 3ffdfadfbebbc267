-- An order and its number give each other, and its name tells both. The crates above cite:
--     order_at_number       at an order's number stands the order
--     order_number-below    the number is below 27
use Rattle.std.proofs.Common.{◌≡◌, ◌↔◌, ℕ, ◌<◌, get_or, map, find, nat_eq, Option, Some, List, Bool, true, false, not, refl, sym, ap, ◌∙◌, lit<, zero-add, arith}
use Rattle.std.specs.Prelude.{nat_lt}
use Rattle.std.specs.Ordering.{is_lt, nat_cmp}
use Rattle.std.specs.declared.cmp.Ordering.{Ordering}
use Rattle.std.specs.declared.cmp.Ordering.TheVariants.{Less, Equal, Greater}
use Rattle.std.specs.List.{list_all}
use Rattle.std.proofs.lemmas.Bool.Decides.{nat_tests}
use Rattle.std.proofs.lemmas.List.Sums.{AllPass-from_list_all}
use Rattle.std.proofs.lemmas.List.FromFn.{get_or-range_with_len}
use Rattle.std.proofs.lemmas.List.{get_or-map}
use Rattle.std.specs.List.{range_with_len}
use Rattle.std.specs.Cmp.Lexicographic.{pointwise, slice_cmp}
use Rattle.ags_isa.specs.declared.orders.Order.{Order}
use Rattle.ags_isa.specs.declared.orders.Order.TheVariants.{Abs, Add, Adz, Als, Axt, Cla, Clz, Com, Dly, Dvp, Inp, Ldq, Lls, Lrs, Mpr, Mpy, Mpz, Out, Sto, Stq, Sub, Suz, Tix, Tmi, Tov, Tra, Tsq}
use Rattle.ags_isa.specs.Order.{order_number, all_orders, order_name, ComesBefore}

-- at an order's number stands the order
pub order_at_number : (order other : Order) → get_or all_orders (order_number order) other ≡ order
order_at_number Abs other = refl
order_at_number Add other = refl
order_at_number Adz other = refl
order_at_number Als other = refl
order_at_number Axt other = refl
order_at_number Cla other = refl
order_at_number Clz other = refl
order_at_number Com other = refl
order_at_number Dly other = refl
order_at_number Dvp other = refl
order_at_number Inp other = refl
order_at_number Ldq other = refl
order_at_number Lls other = refl
order_at_number Lrs other = refl
order_at_number Mpr other = refl
order_at_number Mpy other = refl
order_at_number Mpz other = refl
order_at_number Out other = refl
order_at_number Sto other = refl
order_at_number Stq other = refl
order_at_number Sub other = refl
order_at_number Suz other = refl
order_at_number Tix other = refl
order_at_number Tmi other = refl
order_at_number Tov other = refl
order_at_number Tra other = refl
order_at_number Tsq other = refl

pub order_number-below : (order : Order) → order_number order < 27
order_number-below Abs = lit< tt
order_number-below Add = lit< tt
order_number-below Adz = lit< tt
order_number-below Als = lit< tt
order_number-below Axt = lit< tt
order_number-below Cla = lit< tt
order_number-below Clz = lit< tt
order_number-below Com = lit< tt
order_number-below Dly = lit< tt
order_number-below Dvp = lit< tt
order_number-below Inp = lit< tt
order_number-below Ldq = lit< tt
order_number-below Lls = lit< tt
order_number-below Lrs = lit< tt
order_number-below Mpr = lit< tt
order_number-below Mpy = lit< tt
order_number-below Mpz = lit< tt
order_number-below Out = lit< tt
order_number-below Sto = lit< tt
order_number-below Stq = lit< tt
order_number-below Sub = lit< tt
order_number-below Suz = lit< tt
order_number-below Tix = lit< tt
order_number-below Tmi = lit< tt
order_number-below Tov = lit< tt
order_number-below Tra = lit< tt
order_number-below Tsq = lit< tt

-- no two orders have one number
pub order_number-injective : (order other : Order) → order_number order ≡ order_number other → order ≡ other
order_number-injective order other same =
    sym (order_at_number order order) ∙ ap (λ number. get_or all_orders number order) same ∙ order_at_number other order

-- the order at a number has it
pub number_at : (number : ℕ) (other : Order) → number < 27 → order_number (get_or all_orders number other) ≡ number
number_at number other below =
    let numbers : map order_number all_orders ≡ range_with_len 0 27 = refl in
    sym (get_or-map order_number all_orders number other 0 below) ∙ ap (λ xs. get_or xs number 0) numbers
    ∙ get_or-range_with_len 0 27 number 0 below ∙ zero-add number

-- the order that a name finds
order_found : List ℕ → Option Order
order_found name = find (λ order. pointwise nat_eq (order_name order) name) all_orders

order_found-name : (order : Order) → order_found (order_name order) ≡ Some order
unfolding order_found
order_found-name Abs = refl
order_found-name Add = refl
order_found-name Adz = refl
order_found-name Als = refl
order_found-name Axt = refl
order_found-name Cla = refl
order_found-name Clz = refl
order_found-name Com = refl
order_found-name Dly = refl
order_found-name Dvp = refl
order_found-name Inp = refl
order_found-name Ldq = refl
order_found-name Lls = refl
order_found-name Lrs = refl
order_found-name Mpr = refl
order_found-name Mpy = refl
order_found-name Mpz = refl
order_found-name Out = refl
order_found-name Sto = refl
order_found-name Stq = refl
order_found-name Sub = refl
order_found-name Suz = refl
order_found-name Tix = refl
order_found-name Tmi = refl
order_found-name Tov = refl
order_found-name Tra = refl
order_found-name Tsq = refl

-- no two orders have one name
pub order_name-injective : (order other : Order) → order_name order ≡ order_name other → order ≡ other
order_name-injective order other same =
    let found : Some order ≡ Some other = sym (order_found-name order) ∙ ap order_found same ∙ order_found-name other in cc

-- what a test tells of all orders, it tells of each
pub each_order : (test : Order → Bool) → list_all test all_orders ≡ true → (order : Order) → test order ≡ true
each_order test pass order =
    ap test (sym (order_at_number order order))
    ∙ AllPass-from_list_all test all_orders pass (order_number order) order (order_number-below order)

-- ---- the order of the names

false_true : false ≡ true → ⊥
false_true h = cc

lt_true : (m n : ℕ) → m < n → nat_lt m n ≡ true
lt_true m n h = grind (arith, nat_tests)

true_lt : (m n : ℕ) → nat_lt m n ≡ true → m < n
true_lt m n h = grind (arith, nat_tests)

-- two tests answer alike
alike : Bool → Bool → Bool
alike true other = other
alike false other = not other

alike_same : (one other : Bool) → alike one other ≡ true → one ≡ other
unfolding alike
alike_same true true h = refl
alike_same true false h = sym h
alike_same false true h = h
alike_same false false h = refl

less_of : (answer : Ordering) → is_lt answer ≡ true → answer ≡ Less
less_of Less h = refl
less_of Equal h = absurd (false_true h)
less_of Greater h = absurd (false_true h)

-- a name comes before another, as a test, and the same of the numbers
named_before : Order → Order → Bool
named_before order other = is_lt (slice_cmp nat_cmp (order_name order) (order_name other))

numbered_before : Order → Order → Bool
numbered_before order other = nat_lt (order_number order) (order_number other)

-- the tests answer alike of each order and each other one
all_alike : (order other : Order) → named_before order other ≡ numbered_before order other
unfolding named_before numbered_before alike
all_alike order other = alike_same _ _
    (each_order (λ two. alike (named_before order two) (numbered_before order two))
    (each_order (λ one. list_all (λ two. alike (named_before one two) (numbered_before one two)) all_orders) refl order) other)

pub number_before : (order other : Order) → (order_number order < order_number other) ↔ ComesBefore (order_name order) (order_name other)
unfolding named_before numbered_before
number_before order other = (
  λ less. less_of _ (all_alike order other ∙ lt_true _ _ less),
  λ first. true_lt _ _ (sym (all_alike order other) ∙ ap is_lt first),
)
