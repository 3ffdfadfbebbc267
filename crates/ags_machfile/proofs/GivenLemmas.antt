-- What a document gives is a machine: its codes, times and registers are tables.
use Rattle.std.proofs.Common.{◌≡◌, ℕ, ◌/◌, ◌%◌, ◌<◌, ◌≤◌, ◌==◌, Bool, true, false, List, get_or, refl, ap, subst, arith, All}
use Rattle.std.specs.Prelude.{Result, Ok, Err, Option, Some, None, ℤ, pos, negsuc, nat_le, option_and_then, ◌&&◌, if◌then◌else◌}
use Rattle.std.specs.Option.{ok_or}
use Rattle.std.proofs.lemmas.Bool.Decides.{nat_tests}
use Rattle.std.proofs.lemmas.List.{get_or_default}
use Rattle.toml.specs.Data.{Data, Members, as_table, as_integer, get_member}
use Rattle.ags_isa.specs.declared.orders.Order.{Order}
use Rattle.ags_isa.specs.declared.orders.Order.TheVariants.{Abs}
use Rattle.ags_isa.specs.Order.{all_orders, order_number, order_name}
use Rattle.ags_isa.specs.Code.{AreCodes, standard_codes}
use Rattle.ags_isa.proofs.OrderLemmas.{number_at}
use Rattle.ags_ports.proofs.MachineLemmas.{IsMachine-standard}
use Rattle.ags_ports.specs.Time.{AreTimes, standard_times}
use Rattle.ags_machfile.specs.declared.keys.Key.{Key}
use Rattle.ags_machfile.specs.declared.mach_error.MachError.{MachError}
use Rattle.ags_machfile.specs.declared.keys.Key.TheVariants.{Codes, Times, Code, Time}
use Rattle.ags_machfile.specs.declared.mach_error.MachError.TheVariants.{BadValue}
use Rattle.ags_machfile.specs.Value.{◌>>=◌, within, whole_number}
use Rattle.ags_machfile.specs.OrderTable as table
use Rattle.ags_machfile.specs.OrderTable.{all_numbers, half_of, code_given, time_given, code_entry, time_entry, shared_pair, unshared, codes_in, times_in}
use Rattle.ags_machfile.specs.Rule.{AreNumbers}
use Rattle.ags_machfile.proofs.NumbersLemmas.{ok_same, all_numbers-ok}
use Rattle.ags_machfile.proofs.PartLemmas.{err_not_ok}
use Rattle.ags_machfile.proofs.TableLemmas.{unshared_are_codes}

some_same : {A : Type 0} (x y : A) → Some x ≡ Some y → x ≡ y
some_same x y h = cc

none_not_some : {A : Type 0} (x : A) → None ≡ Some x → ⊥
none_not_some x h = cc

-- ---- values

both : (a b : Bool) → (a && b) ≡ true → (a ≡ true) × (b ≡ true)
both true true h = (refl, refl)
both true false h = (refl, h)
both false b h = (h, absurd (no h))
  where
    no : false ≡ true → ⊥
    no h = cc

chosen : (test : Bool) (m n : ℕ) → (if test then Some m else None) ≡ Some n → (test ≡ true) × (m ≡ n)
chosen true m n h = (refl, some_same m n h)
chosen false m n h = absurd (none_not_some n h)

le_of_test : (m n : ℕ) → nat_le m n ≡ true → m ≤ n
le_of_test m n test = grind (arith, nat_tests)

pub within-limits : (least most : ℕ) (z : Option ℤ) (n : ℕ) → within least most z ≡ Some n → (least ≤ n) × (n ≤ most)
within-limits least most None n h = absurd (none_not_some n h)
within-limits least most (Some (negsuc m)) n h = absurd (none_not_some n h)
within-limits least most (Some (pos m)) n h =
    let choice = chosen (nat_le least m && nat_le m most) m n h in
    let tests = both (nat_le least m) (nat_le m most) choice.0 in
    rw (← choice.1) (le_of_test least m tests.0, le_of_test m most tests.1)

half-below : (m n : ℕ) → half_of m ≡ Some n → m ≤ 62 → n < 32
half-below m n h most =
    let choice = chosen (m % 2 == 0) (m / 2) n h in
    omega (arith, choice.1, most)

code_given-below : (value : Data) (n : ℕ) → code_given value ≡ Some n → n < 32
code_given-below value n h = by_number (whole_number 0 62 value) refl h
  where
    by_number : (found : Option ℕ) → whole_number 0 62 value ≡ found → option_and_then half_of found ≡ Some n → n < 32
    by_number None is none = absurd (none_not_some n none)
    by_number (Some m) is half = half-below m n half (within-limits 0 62 (as_integer value) m is).1

-- what stands at a key was given by its value
given_at : (given : Data → Option ℕ) (which : Key) (value : Option Data) (n : ℕ) → table.number_at given which value ≡ Ok n → (stands : Data) × (given stands ≡ Some n)
given_at given which None n h = absurd (err_not_ok _ n h)
given_at given which (Some stands) n h = (stands, by_given (given stands) h)
  where
    by_given : (found : Option ℕ) → ok_or found (BadValue which) ≡ Ok n → found ≡ Some n
    by_given None none = absurd (err_not_ok _ n none)
    by_given (Some m) some = ap Some (ok_same m n some)

-- ---- tables of numbers

-- a fact that each number of the orders has is one that each number of the table has
all_have : (entry : Order → Result ℕ MachError) (numbers : List ℕ) (P : ℕ → Type 0) → ((order : Order) (n : ℕ) → entry order ≡ Ok n → P n)
    → AreNumbers entry numbers → All P numbers
all_have entry numbers P each are k d within =
    let below : k < 27 = omega (arith, within, are.count) in
    let order = get_or all_orders k Abs in
    let here : order_number order ≡ k = number_at k Abs below in
    rw (get_or_default numbers k d 0 within) (each order (get_or numbers k 0) (rw here at (are.each order)))

codes_of-table : (found : Option Members) (codes_found : List ℕ) → table.order_numbers Codes code_entry found >>= (λ numbers. unshared numbers (shared_pair numbers)) ≡ Ok codes_found
    → AreCodes codes_found
codes_of-table None codes_found h = absurd (err_not_ok _ codes_found h)
codes_of-table (Some document) codes_found h = by_numbers (all_numbers (code_entry document)) refl h
  where
    by_pair : (numbers : List ℕ) (pair : Option (Order × Order)) → all_numbers (code_entry document) ≡ Ok numbers → shared_pair numbers ≡ pair → unshared numbers pair ≡ Ok codes_found → AreCodes codes_found
    by_pair numbers (Some pair) is at same = absurd (err_not_ok _ codes_found same)
    by_pair numbers None is at same =
        let are = all_numbers-ok (code_entry document) numbers is in
        let all = all_have (code_entry document) numbers (λ n. n < 32) (λ order n from. let stands = given_at code_given (Code order) (get_member (order_name order) document) n from in code_given-below stands.0 n stands.1) are in
        let P : List ℕ → Type 0 = λ ns. AreCodes ns in
        subst P (ok_same numbers codes_found same) (unshared_are_codes numbers are.count all at)

    by_numbers : (r : Result (List ℕ) MachError) → all_numbers (code_entry document) ≡ r → r >>= (λ numbers. unshared numbers (shared_pair numbers)) ≡ Ok codes_found → AreCodes codes_found
    by_numbers (Err fault) is same = absurd (err_not_ok fault codes_found same)
    by_numbers (Ok numbers) is same = by_pair numbers (shared_pair numbers) is refl same

pub codes_in-AreCodes : (value : Option Data) (codes_found : List ℕ) → codes_in value ≡ Ok codes_found → AreCodes codes_found
codes_in-AreCodes None codes_found h =
    let P : List ℕ → Type 0 = λ ns. AreCodes ns in subst P (ok_same standard_codes codes_found h) IsMachine-standard.codes
codes_in-AreCodes (Some value) codes_found h = codes_of-table (as_table value) codes_found h

times_of-table : (found : Option Members) (times_found : List ℕ) → table.order_numbers Times time_entry found ≡ Ok times_found → AreTimes times_found
times_of-table None times_found h = absurd (err_not_ok _ times_found h)
times_of-table (Some document) times_found h =
    let are = all_numbers-ok (time_entry document) times_found h in
    let limits : (order : Order) (n : ℕ) → time_entry document order ≡ Ok n → (1 ≤ n) × (n ≤ 1000) =
    λ order n from. let stands = given_at time_given (Time order) (get_member (order_name order) document) n from in within-limits 1 1000 (as_integer stands.0) n stands.1 in
    record {
      each = are.count;
      least = all_have (time_entry document) times_found (λ n. 1 ≤ n) (λ order n from. (limits order n from).0) are;
      most = all_have (time_entry document) times_found (λ n. n ≤ 1000) (λ order n from. (limits order n from).1) are;
    }

pub times_in-AreTimes : (value : Option Data) (times_found : List ℕ) → times_in value ≡ Ok times_found → AreTimes times_found
times_in-AreTimes None times_found h =
    let P : List ℕ → Type 0 = λ ns. AreTimes ns in subst P (ok_same standard_times times_found h) IsMachine-standard.times
times_in-AreTimes (Some value) times_found h = times_of-table (as_table value) times_found h
