-- A table of codes tells its orders apart. The crates above cite:
--     standard_are_codes            the standard codes are a table
--     order_of-code                 the order of an order's code is that order
use Rattle.std.proofs.Common.{◌≡◌, ◌≢◌, ◌↔◌, ◌⊎◌, ⊎_elim, inl, inr, ℕ, zero, suc, zero-add, take, drop, set, subst, ◌≤◌, ◌-◌, ◌+◌, ◌*◌, ap, sym, ◌∙◌, ◌<◌, ◌==◌, ltb, Bool, true, false, not, ◌&&◌, List, [], ◌∷◌, length, All, AllPairs, get_or, refl, rules, arith}
use Rattle.std.specs.List.{list_all, find}
use Rattle.std.specs.Prelude.{Option, Some, None, IfSome}
use Rattle.std.proofs.lemmas.Bool.{cases_lt}
use Rattle.std.proofs.lemmas.Grind.{get_or-set_at}
use Rattle.std.proofs.lemmas.List.{ext_get_or, get_or-set_other}
use Rattle.std.proofs.lemmas.List.FromFn.{get_or-map-range_with_len, length-map-range_with_len}
use mathlib.Core.Bool.{cond}
use Rattle.std.proofs.lemmas.Grind.{common_steps}
use Rattle.std.proofs.lemmas.Bool.{ltb-true}
use Rattle.std.proofs.lemmas.Bool.Decides.{Decides-eqb}
use Rattle.std.proofs.lemmas.List.Sums.{AllPass-from_list_all}
use Rattle.std.proofs.lemmas.List.Kept.{AllPairs-cons}
use Rattle.ags_isa.specs.declared.orders.Order.{Order}
use Rattle.ags_isa.specs.Order.{order_number, all_orders}
use Rattle.ags_isa.specs.Code.{AreCodes, code_of, order_of, orders_of, standard_codes, standard_digits, unused_digits}
use Rattle.ags_isa.proofs.OrderLemmas.{order_at_number, order_number-below, order_number-injective, each_order}

-- positions with one code are one position
pub position_of_code-one : (table : List ℕ) → AreCodes table → (i j : ℕ) → i < 27 → j < 27
    → get_or table i 0 ≡ get_or table j 0 → i ≡ j
position_of_code-one table are i j i_below j_below same =
    grind (arith, are.each, are.distinct i j 0, are.distinct j i 0)

-- no two orders have one code
pub code_of-injective : (table : List ℕ) → AreCodes table → (order other : Order)
    → code_of table order ≡ code_of table other → order ≡ other
code_of-injective table are order other same =
    order_number-injective order other (position_of_code-one table are _ _ (order_number-below order) (order_number-below other) same)

pub code_of-below : (table : List ℕ) → AreCodes table → (order : Order) → code_of table order < 32
code_of-below table are order = are.below (order_number order) 0 (rw are.each (order_number-below order))

-- a test that computes: no number is equal to one after it
unfoldable pub differ : List ℕ → Bool
differ [] = true
differ (code ∷ codes) = list_all (λ other. not (code == other)) codes && differ codes

none_equal : (code other : ℕ) → not (code == other) ≡ true → code ≢ other
none_equal code other test same = grind (rules, test, same)

and_left : (a b : Bool) → (a && b) ≡ true → a ≡ true
and_left a b both = search rules

and_right : (a b : Bool) → (a && b) ≡ true → b ≡ true
and_right a b both = search rules

differ-distinct : (codes : List ℕ) → differ codes ≡ true → AllPairs (λ one another. one ≢ another) codes
unfolding differ
differ-distinct [] test = λ i j d i_before j_within. absurd (omega arith)
differ-distinct (code ∷ codes) test =
    AllPairs-cons (λ one another. one ≢ another) code codes (λ k d within. none_equal _ _ (AllPass-from_list_all _ codes (and_left _ _ test) k d within))
    (differ-distinct codes (and_right _ _ test))

-- a list is distinct where its first code is unlike the others and those are distinct
pairs_of_cons : (code : ℕ) (codes : List ℕ) → (All (λ other. code ≢ other) codes × AllPairs (λ one another. one ≢ another) codes)
    ↔ AllPairs (λ one another. one ≢ another) (code ∷ codes)
pairs_of_cons code codes = (
  λ both. AllPairs-cons (λ one another. one ≢ another) code codes both.0 both.1,
  λ pairs. (
    λ k d within. pairs 0 (suc k) d (omega arith) (omega (arith, within)),
    λ i j d before within. pairs (suc i) (suc j) d (omega (arith, before)) (omega (arith, within)),
  ),
)

-- the same of a slice and what a slice pattern cuts off it
pub pairs_of_first : (codes : List ℕ) → 1 ≤ length codes → let rest = take (length codes - 1) (drop 1 codes) in
    (All (λ other. get_or codes 0 0 ≢ other) rest × AllPairs (λ one another. one ≢ another) rest)
    ↔ AllPairs (λ one another. one ≢ another) codes
pairs_of_first [] some = absurd (omega (arith, some))
pairs_of_first (code ∷ codes) some =
    let whole : take (suc (length codes) - 1) codes ≡ codes = grind (arith, common_steps) in rw whole (pairs_of_cons code codes)

-- a list that passes the tests is a table of codes
pub tested_are_codes : (table : List ℕ) → length table ≡ 27 → list_all (λ code. ltb code 32) table ≡ true → differ table ≡ true → AreCodes table
tested_are_codes table each below distinct = record {
  each = each;
  below = λ k d within. ltb-true _ 32 (AllPass-from_list_all (λ code. ltb code 32) table below k d within);
  distinct = differ-distinct table distinct;
}

pub standard_are_codes : AreCodes standard_codes
unfolding differ
standard_are_codes = tested_are_codes standard_codes refl refl refl

-- ---- the orders by their codes

-- what is found has what the test tells
found_here : (p : Order → Bool) (P : Order → Type 0) (order : Order) (later : Option Order) (b : Bool) → p order ≡ b → (p order ≡ true → P order)
    → IfSome later P → IfSome (cond b (Some order) later) P
found_here p P order later true is tells others = tells is
found_here p P order later false is tells others = others

find_tells : (p : Order → Bool) (P : Order → Type 0) → ((order : Order) → p order ≡ true → P order) → (orders : List Order) → IfSome (find p orders) P
find_tells p P tells [] = tt
find_tells p P tells (order ∷ orders) = found_here p P order (find p orders) (p order) refl (tells order) (find_tells p P tells orders)

true_false : true ≡ false → ⊥
true_false h = cc

found_none : (b : Bool) (order : Order) (later : Option Order) → cond b (Some order) later ≡ None → (b ≡ false) × (later ≡ None)
found_none true order later none = absurd (let h : Some order ≡ None = none in cc)
found_none false order later none = (refl, none)

-- where nothing is found, the test fails at each position
find_fails : (p : Order → Bool) (orders : List Order) (position : ℕ) (default : Order) → position < length orders → p (get_or orders position default) ≡ true
    → find p orders ≡ None → ⊥
find_fails p [] position default within passes none = omega (arith, within)
find_fails p (order ∷ orders) zero default within passes none = true_false (sym passes ∙ (found_none (p order) order (find p orders) none).0)
find_fails p (order ∷ orders) (suc position) default within passes none =
    find_fails p orders position default (omega (arith, within)) passes (found_none (p order) order (find p orders) none).1

some_or_none : (r : Option Order) → (r ≡ None) ⊎ ((order : Order) × (r ≡ Some order))
some_or_none None = inl refl
some_or_none (Some order) = inr (order, refl)

pub order_of-found : (table : List ℕ) (code : ℕ) → IfSome (order_of table code) (λ order. code_of table order ≡ code)
unfolding order_of
order_of-found table code = find_tells (λ order. code_of table order == code) (λ order. code_of table order ≡ code) (λ order test. (Decides-eqb _ _).0 test) all_orders

code_missed : (table : List ℕ) (code : ℕ) (order : Order) → code_of table order ≡ code → order_of table code ≡ None → ⊥
unfolding order_of
code_missed table code order same none =
    let here : code_of table (get_or all_orders (order_number order) order) ≡ code = ap (code_of table) (order_at_number order order) ∙ same in
    find_fails (λ some. code_of table some == code) all_orders (order_number order) order (order_number-below order) ((Decides-eqb _ _).1 here) none

pub order_of-code : (table : List ℕ) (code : ℕ) → AreCodes table → (order : Order) → code_of table order ≡ code → order_of table code ≡ Some order
order_of-code table code are order same = ⊎_elim
    (λ none. absurd (code_missed table code order same none))
    (λ some.
    let its : code_of table some.0 ≡ code = subst (λ (r : Option Order). IfSome r (λ other. code_of table other ≡ code)) some.1 (order_of-found table code) in
    some.1 ∙ ap Some (code_of-injective table are some.0 order (its ∙ sym same)))
    (some_or_none (order_of table code))

-- one code further in the table of orders
pub one_more : (table : List ℕ) (orders : List (Option Order)) (code : ℕ) → length orders ≡ 32 → code < 32
    → ((k : ℕ) → k < code → get_or orders k None ≡ order_of table k)
    → (k : ℕ) → k < code + 1 → get_or (set orders code (order_of table code)) k None ≡ order_of table k
one_more table orders code long below earlier k within = ⊎_elim
    (λ sooner. get_or-set_other orders code k (order_of table code) None (λ same. omega (arith, sooner, same)) ∙ earlier k sooner)
    (λ later.
    let same : k ≡ code = omega (arith, later, within) in
    get_or-set_at orders code k (order_of table code) None same (rw long below) ∙ ap (order_of table) (sym same))
    (cases_lt k code)

order_from : (table : List ℕ) (code : ℕ) → code < 32 → get_or (orders_of table) code None ≡ order_of table code
unfolding orders_of
order_from table code below = get_or-map-range_with_len (order_of table) 0 32 code code None below (zero-add code)

orders_long : (table : List ℕ) → length (orders_of table) ≡ 32
unfolding orders_of
orders_long table = length-map-range_with_len (order_of table) 0 32

pub orders_made : (table : List ℕ) (orders : List (Option Order)) → length orders ≡ 32 → ((k : ℕ) → k < 32 → get_or orders k None ≡ order_of table k)
    → orders ≡ orders_of table
orders_made table orders long each = ext_get_or None orders (orders_of table) (long ∙ sym (orders_long table))
    (λ k within. let below : k < 32 = rw (sym long) within in each k below ∙ sym (order_from table k below))

pub order_found : (table : List ℕ) (orders : List (Option Order)) (code : ℕ) → orders ≡ orders_of table → code < 32
    → IfSome (get_or orders code None) (λ order. code_of table order ≡ code)
order_found table orders code are below =
    subst (λ (r : Option Order). IfSome r (λ order. code_of table order ≡ code)) (sym (ap (λ (all : List (Option Order)). get_or all code None) are ∙ order_from table code below))
    (order_of-found table code)

pub order_only : (table : List ℕ) (orders : List (Option Order)) (code : ℕ) → AreCodes table → orders ≡ orders_of table → code < 32
    → (order : Order) → code_of table order ≡ code → get_or orders code None ≡ Some order
order_only table orders code codes are below order same =
    ap (λ (all : List (Option Order)). get_or all code None) are ∙ order_from table code below ∙ order_of-code table code codes order same

pub standard_code-half : (order : Order) → 2 * code_of standard_codes order ≡ standard_digits order
standard_code-half order =
    (Decides-eqb _ _).0 (each_order (λ some. 2 * code_of standard_codes some == standard_digits some) refl order)

pub standard_digits-used : (order : Order) → All (λ digits. standard_digits order ≢ digits) unused_digits
standard_digits-used order = λ k d within. none_equal _ _ (AllPass-from_list_all (λ digits. not (standard_digits order == digits)) unused_digits
    (each_order (λ some. list_all (λ digits. not (standard_digits some == digits)) unused_digits) refl order) k d within)
