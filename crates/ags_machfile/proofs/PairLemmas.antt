-- The first pair of orders with one code: it is one, and the least of all.
use Rattle.std.proofs.Common.{◌≡◌, ◌≢◌, ℕ, zero, suc, ◌<◌, ◌≤◌, ◌==◌, true, false, List, [], ◌∷◌, length, get_or, refl, sym, ap, subst, ◌∙◌, inl, inr, arith}
use Rattle.std.specs.Prelude.{Option, Some, None, option_map, Result, Ok, Err}
use Rattle.std.specs.Option.{ok_or, option_or}
use Rattle.std.proofs.lemmas.Bool.{cases_Bool, cases_lt}
use Rattle.std.proofs.lemmas.Bool.Decides.{nat_tests}
use Rattle.ags_isa.specs.declared.orders.Order.{Order}
use Rattle.ags_isa.specs.declared.orders.Order.TheVariants.{Abs}
use Rattle.ags_isa.specs.Order.{all_orders, order_name, order_number}
use Rattle.ags_isa.specs.Code.{code_of}
use Rattle.ags_isa.proofs.OrderLemmas.{order_at_number, order_number-below, order_number-injective, number_at}
use Rattle.toml.specs.Data.{Data, Members, get_member, as_table}
use Rattle.ags_machfile.specs.declared.keys.Key.{Key}
use Rattle.ags_machfile.specs.declared.keys.Key.TheVariants.{Codes, Code}
use Rattle.ags_machfile.specs.declared.mach_error.MachError.{MachError}
use Rattle.ags_machfile.specs.declared.mach_error.MachError.TheVariants.{BadValue, SameCode}
use Rattle.ags_machfile.specs.Value.{◌>>=◌}
use Rattle.ags_machfile.specs.OrderTable.{code_given, code_entry, codes_in, first_pair, number_at as number_given, order_numbers, order_with_code_of, shared_pair, unshared}
use Rattle.ags_machfile.specs.Rule.{IsPair, IsFirstPair}
use Rattle.ags_machfile.proofs.NumbersLemmas.{all_numbers-err}
use Rattle.ags_machfile.proofs.TableLemmas.{unfound, unpaired}

some_same : {A : Type 0} (x y : A) → Some x ≡ Some y → x ≡ y
some_same x y h = cc

none_not_some : {A : Type 0} (x : A) → None ≡ Some x → ⊥
none_not_some x h = cc

-- the position of the first of these orders that has an order's code
record FoundAt (table : List ℕ) (order : Order) (others : List Order) (other : Order) : Type 0 where
  position : ℕ
  within : position < length others
  stands : (d : Order) → get_or others position d ≡ other
  same : code_of table order ≡ code_of table other
  before : (k : ℕ) (d : Order) → k < position → code_of table order ≢ code_of table (get_or others k d)

found : (table : List ℕ) (order : Order) (others : List Order) (other : Order) → order_with_code_of table order others ≡ Some other → FoundAt table order others other
found table order [] other h = absurd (none_not_some other h)
found table order (one ∷ others) other h =
    elim (cases_Bool (code_of table one == code_of table order)) [
      | inl same ↦ here (equal _ _ same) (some_same one other (rw same at h))
      | inr differs ↦ later (differ _ _ differs) (found table order others other (rw differs at h))
    ]
  where
    equal : (m n : ℕ) → (m == n) ≡ true → n ≡ m
    equal m n test = grind (arith, nat_tests)

    differ : (m n : ℕ) → (m == n) ≡ false → n ≢ m
    differ m n test same = grind (arith, nat_tests)

    here : code_of table order ≡ code_of table one → one ≡ other → FoundAt table order (one ∷ others) other
    here same is = record {
      position = 0;
      within = omega arith;
      stands = λ d. is;
      same = same ∙ ap (code_of table) is;
      before = λ k d below. absurd (omega (arith, below));
    }

    later : code_of table order ≢ code_of table one → FoundAt table order others other → FoundAt table order (one ∷ others) other
    later differs at_rest = record {
      position = suc at_rest.position;
      within = omega (arith, at_rest.within);
      stands = at_rest.stands;
      same = at_rest.same;
      before = before;
    }
      where
        before : (k : ℕ) (d : Order) → k < suc at_rest.position → code_of table order ≢ code_of table (get_or (one ∷ others) k d)
        before zero d below = differs
        before (suc k) d below = at_rest.before k d (omega (arith, below))

-- the positions of the first pair among these orders
record PairAt (table : List ℕ) (orders : List Order) (first second : Order) : Type 0 where
  i : ℕ
  j : ℕ
  ordered : i < j
  within : j < length orders
  at_i : (d : Order) → get_or orders i d ≡ first
  at_j : (d : Order) → get_or orders j d ≡ second
  same : code_of table first ≡ code_of table second
  least_i : (k l : ℕ) (d : Order) → k < l → l < length orders → code_of table (get_or orders k d) ≡ code_of table (get_or orders l d) → i ≤ k
  least_j : (l : ℕ) (d : Order) → i < l → l < length orders → code_of table first ≡ code_of table (get_or orders l d) → j ≤ l

pair_here : (table : List ℕ) (order : Order) (others : List Order) (other : Order) → FoundAt table order others other → PairAt table (order ∷ others) order other
pair_here table order others other at_rest = record {
  i = 0;
  j = suc at_rest.position;
  ordered = omega arith;
  within = omega (arith, at_rest.within);
  at_i = λ d. refl;
  at_j = at_rest.stands;
  same = at_rest.same;
  least_i = λ k l d before within same. omega arith;
  least_j = least;
}
  where
    least : (l : ℕ) (d : Order) → 0 < l → l < length (order ∷ others) → code_of table order ≡ code_of table (get_or (order ∷ others) l d) → suc at_rest.position ≤ l
    least zero d above within same = absurd (omega (arith, above))
    least (suc l) d above within same =
        elim (cases_lt l at_rest.position) [
          | inl before ↦ absurd (at_rest.before l d before same)
          | inr past ↦ omega (arith, past)
        ]

pair_later : (table : List ℕ) (order : Order) (others : List Order) (first second : Order) → order_with_code_of table order others ≡ None → PairAt table others first second
    → PairAt table (order ∷ others) first second
pair_later table order others first second none later = record {
  i = suc later.i;
  j = suc later.j;
  ordered = omega (arith, later.ordered);
  within = omega (arith, later.within);
  at_i = later.at_i;
  at_j = later.at_j;
  same = later.same;
  least_i = least;
  least_j = least_too;
}
  where
    least : (k l : ℕ) (d : Order) → k < l → l < length (order ∷ others) → code_of table (get_or (order ∷ others) k d) ≡ code_of table (get_or (order ∷ others) l d) → suc later.i ≤ k
    least k zero d before within same = absurd (omega (arith, before))
    least zero (suc l) d before within same = absurd (unfound table order others none l d (omega (arith, within)) same)
    least (suc k) (suc l) d before within same = omega (arith, later.least_i k l d (omega (arith, before)) (omega (arith, within)) same)

    least_too : (l : ℕ) (d : Order) → suc later.i < l → l < length (order ∷ others) → code_of table first ≡ code_of table (get_or (order ∷ others) l d) → suc later.j ≤ l
    least_too zero d above within same = absurd (omega (arith, above))
    least_too (suc l) d above within same = omega (arith, later.least_j l d (omega (arith, above)) (omega (arith, within)) same)

pair_at : (table : List ℕ) (orders : List Order) (pair : Order × Order) → first_pair table orders ≡ Some pair → PairAt table orders pair.0 pair.1
pair_at table [] pair h = absurd (none_not_some pair h)
pair_at table (order ∷ others) pair h = by_found (order_with_code_of table order others) refl h (pair_at table others pair)
  where
    by_found : (r : Option Order) → order_with_code_of table order others ≡ r → option_or (option_map (λ other. (order, other)) r) (first_pair table others) ≡ Some pair
        → (first_pair table others ≡ Some pair → PairAt table others pair.0 pair.1) → PairAt table (order ∷ others) pair.0 pair.1
    by_found None none h rest = pair_later table order others pair.0 pair.1 none (rest h)
    by_found (Some other) is h rest =
        let P : Order × Order → Type 0 = λ p. PairAt table (order ∷ others) p.0 p.1 in
        subst P (some_same (order, other) pair h) (pair_here table order others other (found table order others other is))

pub shared_pair-first : (table : List ℕ) (pair : Order × Order) → shared_pair table ≡ Some pair → IsFirstPair table pair.0 pair.1
unfolding shared_pair
shared_pair-first table pair h =
    let there = pair_at table all_orders pair h in
    let first_number : order_number pair.0 ≡ there.i = sym (ap order_number (there.at_i Abs)) ∙ number_at there.i Abs (omega (arith, there.ordered, there.within)) in
    let second_number : order_number pair.1 ≡ there.j = sym (ap order_number (there.at_j Abs)) ∙ number_at there.j Abs there.within in
    record {
      pair = record { before = omega (arith, first_number, second_number, there.ordered); same = there.same };
      least_first = λ order other is.
          let least = there.least_i (order_number order) (order_number other) Abs is.before (order_number-below other) (rw (order_at_number order Abs, order_at_number other Abs) is.same) in
          omega (arith, first_number, least);
      least_second = λ other is.
          let least = there.least_j (order_number other) Abs (omega (arith, first_number, is.before)) (order_number-below other) (rw (order_at_number other Abs) is.same) in
          omega (arith, second_number, least);
    }

-- where no pair is found, orders with one code are one order
pub shared_pair-none : (table : List ℕ) → shared_pair table ≡ None → (order other : Order) → ¬ IsPair table order other
unfolding shared_pair
shared_pair-none table none order other is =
    unpaired table all_orders none (order_number order) (order_number other) Abs is.before (order_number-below other)
    (rw (order_at_number order Abs, order_at_number other Abs) is.same)

-- ---- what is so is told

pub none-shared_pair : (table : List ℕ) → ((order other : Order) → ¬ IsPair table order other) → shared_pair table ≡ None
none-shared_pair table none = by_pair (shared_pair table) refl
  where
    by_pair : (found : Option (Order × Order)) → shared_pair table ≡ found → shared_pair table ≡ None
    by_pair None is = is
    by_pair (Some pair) is = absurd (none pair.0 pair.1 (shared_pair-first table pair is).pair)

-- there is one least pair
one_pair : (table : List ℕ) (first second one other : Order) → IsFirstPair table first second → IsFirstPair table one other → (first ≡ one) × (second ≡ other)
one_pair table first second one other is too =
    let firsts : first ≡ one = order_number-injective first one (omega (arith, is.least_first one other too.pair, too.least_first first second is.pair)) in
    let mine : IsPair table one second = subst (λ (o : Order). IsPair table o second) firsts is.pair in
    let theirs : IsPair table first other = subst (λ (o : Order). IsPair table o other) (sym firsts) too.pair in
    (firsts, order_number-injective second other (omega (arith, is.least_second other theirs, too.least_second second mine)))

pub first-shared_pair : (table : List ℕ) (first second : Order) → IsFirstPair table first second → shared_pair table ≡ Some (first, second)
first-shared_pair table first second least = by_pair (shared_pair table) refl
  where
    by_pair : (found : Option (Order × Order)) → shared_pair table ≡ found → shared_pair table ≡ Some (first, second)
    by_pair None is = absurd (shared_pair-none table is first second least.pair)
    by_pair (Some pair) is =
        let same = one_pair table pair.0 pair.1 first second (shared_pair-first table pair is) least in
        is ∙ ap (λ (o : Order). Some (o, pair.1)) same.0 ∙ ap (λ (o : Order). Some (first, o)) same.1

-- ---- what a file's codes are refused for

-- what an entry gives is no shared code
entry_alone : (which : Key) (found : Option Data) (first second : Order) → number_given code_given which found ≡ Err (SameCode first second) → ⊥
entry_alone which None first second is = absurd cc
entry_alone which (Some value) first second is = by_given (code_given value) is
  where
    by_given : (given : Option ℕ) → ok_or given (BadValue which) ≡ Err (SameCode first second) → ⊥
    by_given None is = absurd cc
    by_given (Some code) is = absurd cc

numbers_alone : (members : Option Members) (first second : Order) → order_numbers Codes code_entry members ≡ Err (SameCode first second) → ⊥
numbers_alone None first second is = absurd cc
numbers_alone (Some members) first second is =
    let fault = all_numbers-err (code_entry members) (SameCode first second) is in
    entry_alone (Code fault.order) (get_member (order_name fault.order) members) first second fault.fails

pub codes_in-shared : (value : Data) (first second : Order) → codes_in (Some value) ≡ Err (SameCode first second)
    → (table : List ℕ) × (order_numbers Codes code_entry (as_table value) ≡ Ok table) × IsFirstPair table first second
codes_in-shared value first second is = by_numbers (order_numbers Codes code_entry (as_table value)) refl is
  where
    by_pair : (table : List ℕ) (found : Option (Order × Order)) → shared_pair table ≡ found → unshared table found ≡ Err (SameCode first second) → IsFirstPair table first second
    by_pair table None found_is told = absurd cc
    by_pair table (Some pair) found_is told =
        let same : SameCode pair.0 pair.1 ≡ SameCode first second = cc in
        let one : pair.0 ≡ first = cc in
        let two : pair.1 ≡ second = cc in
        subst (λ (o : Order). IsFirstPair table o second) one (subst (λ (o : Order). IsFirstPair table pair.0 o) two (shared_pair-first table pair found_is))

    by_numbers : (numbers : Result (List ℕ) MachError) → order_numbers Codes code_entry (as_table value) ≡ numbers
        → (numbers >>= (λ table. unshared table (shared_pair table))) ≡ Err (SameCode first second)
        → (table : List ℕ) × (order_numbers Codes code_entry (as_table value) ≡ Ok table) × IsFirstPair table first second
    by_numbers (Ok table) numbers told = (table, numbers, by_pair table (shared_pair table) refl told)
    by_numbers (Err fault) numbers told = absurd (numbers_alone (as_table value) first second (numbers ∙ told))

pub shared-codes_in : (value : Data) (first second : Order) (table : List ℕ) → order_numbers Codes code_entry (as_table value) ≡ Ok table → IsFirstPair table first second
    → codes_in (Some value) ≡ Err (SameCode first second)
shared-codes_in value first second table numbers least =
    ap (λ (r : Result (List ℕ) MachError). r >>= (λ table. unshared table (shared_pair table))) numbers ∙ ap (unshared table) (first-shared_pair table first second least)
