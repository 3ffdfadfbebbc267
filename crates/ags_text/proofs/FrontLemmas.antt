-- The fronts of a text that pass a test, and what stands after them.
use Rattle.std.proofs.Common.{◌≡◌, ℕ, ◌+◌, ◌≤◌, Bool, true, false, cond, not, List, [], ◌∷◌, ◌++◌, length, take, drop, get_or, refl, ap, unwrap_or, position, inl, inr, one-add, arith}
use Rattle.std.specs.List.{position_or_len, prefix_len, list_all}
use Rattle.std.proofs.lemmas.Bool.{cases_lt, le-ltb, lt-ltb, cases_Bool, and_parts}
use Rattle.std.proofs.lemmas.List.Sums.{prefix_len-le-length}

-- the first place that passes, or the length
pub position_or_len_is : (p : ℕ → Bool) (text : List ℕ) → unwrap_or (position p text) (length text) ≡ position_or_len p text
position_or_len_is p text =
    let most : position_or_len p text ≤ length text = prefix_len-le-length (λ b. not (p b)) text in
    elim (cases_lt (position_or_len p text) (length text)) [
      | inl lt ↦ rw (lt-ltb _ _ lt) refl
      | inr le ↦ rw (le-ltb _ _ le) (omega arith)
    ]

-- what passes a test is what does not fail it
pub prefix_len-not_not : (p : ℕ → Bool) (text : List ℕ) → prefix_len (λ b. not (not (p b))) text ≡ prefix_len p text
prefix_len-not_not p [] = refl
prefix_len-not_not p (b ∷ text) =
    elim (p b) as (λ v. cond (not (not v)) (1 + prefix_len (λ b. not (not (p b))) text) 0 ≡ cond v (1 + prefix_len p text) 0) [
      | true ↦ ap (λ n. 1 + n) (prefix_len-not_not p text)
      | false ↦ refl
    ]

-- whether the first byte passes
abbrev pub first_passes : (ℕ → Bool) → List ℕ → Bool
first_passes p [] = false
first_passes p (b ∷ text) = p b

-- the front passes
pub front_passes : (p : ℕ → Bool) (text : List ℕ) → list_all p (take (prefix_len p text) text) ≡ true
front_passes p [] = refl
front_passes p (b ∷ text) =
    elim (cases_Bool (p b)) [
      | inl is ↦ rw (is, one-add (prefix_len p text), is) (front_passes p text)
      | inr not ↦ rw (not) refl
    ]

-- and what stands after it does not begin with a byte that passes
pub rest_stops : (p : ℕ → Bool) (text : List ℕ) → first_passes p (drop (prefix_len p text) text) ≡ false
rest_stops p [] = refl
rest_stops p (b ∷ text) =
    elim (cases_Bool (p b)) [
      | inl is ↦ rw (is, one-add (prefix_len p text)) (rest_stops p text)
      | inr not ↦ rw (not) not
    ]

-- a front that passes, before a rest that does not begin with a byte that does
pub prefix_len_cut : (p : ℕ → Bool) (front rest : List ℕ) → list_all p front ≡ true → first_passes p rest ≡ false → prefix_len p (front ++ rest) ≡ length front
prefix_len_cut p [] [] all stops = refl
prefix_len_cut p [] (b ∷ rest) all stops = rw (stops) refl
prefix_len_cut p (b ∷ front) rest all stops =
    let parts = and_parts (p b) (list_all p front) all in
    let is : p b ≡ true = parts.0 in
    let whole = prefix_len_cut p front rest parts.1 stops in
    rw (is) (omega arith)

-- a text whose first byte passes has it in its front
pub first_of_front : (p : ℕ → Bool) (b : ℕ) (text : List ℕ) → p b ≡ true → get_or (take (prefix_len p (b ∷ text)) (b ∷ text)) 0 0 ≡ b
first_of_front p b text is = rw (is, one-add (prefix_len p text)) refl

-- a text whose first byte fails has no front
pub no_front : (p : ℕ → Bool) (b : ℕ) (text : List ℕ) → p b ≡ false → drop (prefix_len p (b ∷ text)) (b ∷ text) ≡ b ∷ text
no_front p b text fails = rw (fails) refl
