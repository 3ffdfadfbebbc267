-- No address twice: what one more register of a table adds.
use Rattle.std.proofs.Common.{◌≡◌, ◌≢◌, ℕ, zero, suc, ◌+◌, ◌<◌, true, false, List, [], ◌∷◌, length, All, Any, AllPairs, take, get_or, refl, sym, ap, ◌∙◌, arith, ⊎_elim, subst}
use Rattle.std.specs.Prelude.{Bool, ◌==◌, nat_lt, not, cond, Some, None}
use Rattle.std.specs.List.{position_or_len}
use Rattle.std.proofs.lemmas.Bool.Decides.{nat_tests}
use Rattle.std.proofs.lemmas.List.Quantifiers.{position-Some}
use Rattle.ags_ports.specs.Port.{AreRegisters, position_of}
use Rattle.std.proofs.lemmas.List.{get_or-take, get_or_default}
use Rattle.std.proofs.Math.ListN.{length-take}
use Rattle.std.proofs.lemmas.Bool.{cases_lt}
use Rattle.ags_ports.specs.declared.registers.Port.{Port}

-- where an earlier register has the address of the one at a position, the list has an address twice
pub taken_twice : (xs : List Port) (n : ℕ) (d : Port) → n < length xs
    → Any (λ port. port.address ≡ (get_or xs n d).address) (take n xs)
    → AllPairs (λ one another. one.address ≢ another.address) xs → ⊥
taken_twice xs n d below (i, x, inside, is, same) distinct =
    let near : i < n = omega (arith, length-take n xs) in
    let at : get_or xs i x ≡ x = sym (get_or-take n xs i x near) ∙ is in
    distinct i n d near below (ap (λ (port : Port). port.address) (get_or_default xs i d x (omega arith) ∙ at) ∙ same)

-- where none has, one more register is told apart from those before it
pub one_more : (xs : List Port) (n : ℕ) (d : Port) → n < length xs
    → (Any (λ port. port.address ≡ (get_or xs n d).address) (take n xs) → ⊥)
    → ((i j : ℕ) (e : Port) → i < j → j < n → (get_or xs i e).address ≢ (get_or xs j e).address)
    → (i j : ℕ) (e : Port) → i < j → j < n + 1 → (get_or xs i e).address ≢ (get_or xs j e).address
one_more xs n d below free before i j e less last same = ⊎_elim
    (λ inside. before i j e less inside same)
    (λ outside.
    let here : j ≡ n = omega arith in
    let e' = get_or xs i e in
    let read : get_or (take n xs) i e' ≡ e' = get_or-take n xs i e' (omega arith) ∙ get_or_default xs i e' e (omega arith) in
    let moved : (get_or xs i e).address ≡ (get_or xs n e).address = subst (λ (k : ℕ). (get_or xs i e).address ≡ (get_or xs k e).address) here same in
    free (i, e', omega (arith, length-take n xs), read, moved ∙ ap (λ (port : Port). port.address) (get_or_default xs n e d below)))
    (cases_lt j n)

-- ---- look-ups

later : (b : Bool) (m n : ℕ) → m < n → cond (not b) (1 + m) 0 < suc n
later true m n h = omega arith
later false m n h = omega arith

-- where an element passes, the first that does stands before the end
passing : (p : Port → Bool) (xs : List Port) (k : ℕ) (d : Port) → k < length xs → p (get_or xs k d) ≡ true → position_or_len p xs < length xs
passing p [] k d below h = absurd (omega arith)
passing p (x ∷ xs) zero d below h = rw h (omega arith)
passing p (x ∷ xs) (suc k) d below h = later (p x) (position_or_len p xs) (length xs) (passing p xs k d (omega arith) h)

lt_true : (m n : ℕ) → m < n → nat_lt m n ≡ true
lt_true m n h = grind (arith, nat_tests)

eq_true : (m n : ℕ) → m ≡ n → (m == n) ≡ true
eq_true m n h = grind (arith, nat_tests)

true_eq : (m n : ℕ) → (m == n) ≡ true → m ≡ n
true_eq m n h = grind (arith, nat_tests)

-- where a register has the address, one is found
placed : (ports : List Port) (address k : ℕ) (d : Port) → k < length ports → (get_or ports k d).address ≡ address
    → position_of ports address ≡ Some (position_or_len (λ port. port.address == address) ports)
placed ports address k d below h = rw (lt_true _ _ (passing (λ port. port.address == address) ports k d below (eq_true _ address h)))

-- what is found is a register of that address
pub position_of-some : (ports : List Port) (address position : ℕ) (d : Port) → position_of ports address ≡ Some position → (position < length ports) × ((get_or ports position d).address ≡ address)
position_of-some ports address position d h =
    let at = position-Some (λ port. port.address == address) ports position d h in
    (at.0, true_eq _ address at.1)

-- nothing is found only where none has that address
pub position_of-none : (ports : List Port) (address : ℕ) → position_of ports address ≡ None → All (λ port. port.address ≢ address) ports
position_of-none ports address h k d below same = let found = placed ports address k d below same in cc

-- each register of a table is found by its address
pub position_of-register : (ports : List Port) (k : ℕ) (d : Port) → AreRegisters ports → k < length ports
    → position_of ports ((get_or ports k d).address) ≡ Some k
position_of-register ports k d are below =
    let address = (get_or ports k d).address in
    let position = position_or_len (λ port. port.address == address) ports in
    let found : position_of ports address ≡ Some position = placed ports address k d below refl in
    let at = position_of-some ports address position d found in
    found ∙ ap (λ (n : ℕ). Some n) (numbers_of ports position k d are at.0 below at.1)
  where
    numbers_of : (xs : List Port) (i j : ℕ) (e : Port) → AreRegisters xs → i < length xs → j < length xs → (get_or xs i e).address ≡ (get_or xs j e).address → i ≡ j
    numbers_of xs i j e are under over same = ⊎_elim
        (λ less. absurd (are.distinct i j e less over same))
        (λ more. ⊎_elim (λ less. absurd (are.distinct j i e less under (sym same))) (λ less. omega arith) (cases_lt j i))
        (cases_lt i j)
