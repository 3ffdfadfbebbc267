-- What the checks of one statement cite: a value within another, told by a test, and the first position in a list that passes a test.
use Rattle.std.proofs.Common.{◌≡◌, ℕ, zero, suc, ◌<◌, ◌≤◌, Bool, true, false, not, ◌||◌, refl, subst, ⊎_elim, List, length, unwrap_or, position, inl, inr, arith}
use Rattle.std.specs.Prelude.{IsTrue}
use Rattle.std.specs.List.{position_or_len}
use Rattle.std.proofs.lemmas.Bool.{cases_lt, le-ltb, lt-ltb}
use Rattle.std.proofs.lemmas.List.Sums.{prefix_len-le-length}
use Rattle.ags_domain.specs.Domain.{IsWithin}
use Rattle.ags_domain.specs.Value.{value_meaning, value_held}
use Rattle.ags_domain.specs.ListLaws.{and_left, and_right}
use Rattle.ags_domain.specs.declared.values.Value.{Value}
use Rattle.ags_certtext.specs.Statement.{all_below, is_within}

pub is_false : (b : Bool) → (b ≡ true → ⊥) → b ≡ false
is_false true never = absurd (never refl)
is_false false never = refl

pub neither : (a b : Bool) → (a || b) ≡ false → (a ≡ false) × (b ≡ false)
neither true b is = let clash : true ≡ false = is in absurd cc
neither false b is = (refl, is)

-- ---- a test of each number below another

each_below : (n : ℕ) (test : ℕ → Bool) → ((k : ℕ) → k < n → test k ≡ true) → all_below n test ≡ true
unfolding all_below
each_below zero test each = refl
each_below (suc n) test each = rw (each n (omega arith), each_below n test (λ k below. each k (omega arith))) refl

below_at : (n : ℕ) (test : ℕ → Bool) → all_below n test ≡ true → (k : ℕ) → k < n → test k ≡ true
unfolding all_below
below_at zero test all k below = absurd (omega arith)
below_at (suc n) test all k below = ⊎_elim
    (λ less. below_at n test (and_right (test n) (all_below n test) all) k less)
    (λ more. let same : n ≡ k = omega arith in subst (λ (m : ℕ). test m ≡ true) same (and_left (test n) (all_below n test) all))
    (cases_lt k n)

implied : (a b : Bool) → (a ≡ true → b ≡ true) → (not a || b) ≡ true
implied true b h = h refl
implied false b h = refl

implies : (a b : Bool) → (not a || b) ≡ true → a ≡ true → b ≡ true
implies true b h held = h
implies false b h held = absurd cc

pub within_is : (inner outer : Value) → is_within inner outer ≡ true → IsWithin value_meaning inner outer
unfolding is_within
within_is inner outer is w below held =
    implies (value_held inner w) (value_held outer w) (below_at 262144 (λ (word : ℕ). not (value_held inner word) || value_held outer word) is w below) held

pub is_within_is : (inner outer : Value) → IsWithin value_meaning inner outer → is_within inner outer ≡ true
unfolding is_within
is_within_is inner outer within =
    each_below 262144 (λ (word : ℕ). not (value_held inner word) || value_held outer word) (λ w below. implied (value_held inner w) (value_held outer w) (within w below))

-- the test tells whether the value is within the other
pub within_told : (inner outer : Value) (told : Bool) → (IsTrue told → IsWithin value_meaning inner outer) → (IsWithin value_meaning inner outer → IsTrue told)
    → is_within inner outer ≡ told
within_told inner outer true only found = is_within_is inner outer (only refl)
within_told inner outer false only found = is_false (is_within inner outer) (λ is. let clash : false ≡ true = found (within_is inner outer is) in absurd cc)

-- ---- the first position that passes

pub first_position : {X : Type 0} (p : X → Bool) (xs : List X) → unwrap_or (position p xs) (length xs) ≡ position_or_len p xs
first_position p xs =
    let most : position_or_len p xs ≤ length xs = prefix_len-le-length (λ x. not (p x)) xs in
    elim (cases_lt (position_or_len p xs) (length xs)) [
      | inl lt ↦ rw (lt-ltb _ _ lt) refl
      | inr le ↦ rw (le-ltb _ _ le) (omega arith)
    ]

pub position_within : {X : Type 0} (p : X → Bool) (xs : List X) → position_or_len p xs ≤ length xs
position_within p xs = prefix_len-le-length (λ x. not (p x)) xs
