-- Things that are judged in order, all of them, as a loop goes through them.
use Rattle.std.proofs.Common.{◌≡◌, ℕ, zero, suc, ◌+◌, ◌<◌, ◌≤◌, refl, sym, subst, arith, List, [], ◌∷◌, length, take, get_or, inl, inr}
use Rattle.std.specs.Prelude.{Result, Ok, Err, IfOk}
use Rattle.std.proofs.lemmas.List.{take_all}
use Rattle.ags_verdict.specs.InOrder.{InOrder}
use Rattle.ags_recheck.specs.Joined.{joined}

module _ {X F : Type 0} (judged : ℕ → X → Result ℕ F → Type 0) where
  -- the first thing alone
  first_one : (first : ℕ) (x : X) (one : Result ℕ F) → judged first x one → InOrder judged first (x ∷ []) (joined (Ok 0) one)
  first_one first x (Ok more) is = (more, 0, is, refl, omega arith)
  first_one first x (Err fault) is = inl is

  -- a thing in front of others
  in_front : (first : ℕ) (y : X) (ys : List X) (before one : Result ℕ F) (front rest : ℕ) → judged first y (Ok front)
      → InOrder judged (first + 1) ys (joined (Ok rest) one) → InOrder judged first (y ∷ ys) (joined (Ok (front + rest)) one)
  in_front first y ys before (Ok more) front rest is behind = (front, rest + more, is, behind, omega arith)
  in_front first y ys before (Err fault) front rest is behind = inr (front, is, behind)

  one_more_suc : (first : ℕ) (xs : List X) (i : ℕ) (x d : X) (before one : Result ℕ F) → i < length xs → x ≡ get_or xs i d
      → InOrder judged first (take i xs) before → judged (i + first) x one → InOrder judged first (take (suc i) xs) (joined before one)
  one_more_suc first [] i x d before one inside is so_far passes = absurd (omega (arith, inside))
  one_more_suc first (y ∷ ys) zero x d (Ok count) one inside is so_far passes =
      let position : 0 + first ≡ first = omega arith in
      subst (λ (n : ℕ). InOrder judged first (y ∷ []) (joined (Ok n) one)) (sym so_far)
      (first_one first y one (subst (λ (z : X). judged first z one) is (subst (λ (p : ℕ). judged p x one) position passes)))
  one_more_suc first (y ∷ ys) zero x d (Err fault) one inside is so_far passes = absurd so_far
  one_more_suc first (y ∷ ys) (suc i) x d (Ok count) one inside is so_far passes =
      let position : suc i + first ≡ i + (first + 1) = omega arith in
      subst (λ (n : ℕ). InOrder judged first (y ∷ take (suc i) ys) (joined (Ok n) one)) (sym so_far.4)
      (in_front first y (take (suc i) ys) (Ok count) one so_far.0 so_far.1 so_far.2
      (one_more_suc (first + 1) ys i x d (Ok so_far.1) one (omega (arith, inside)) is so_far.3 (subst (λ (p : ℕ). judged p x one) position passes)))
  one_more_suc first (y ∷ ys) (suc i) x d (Err fault) one inside is (inl fails) passes = inl fails
  one_more_suc first (y ∷ ys) (suc i) x d (Err fault) one inside is (inr later) passes =
      let position : suc i + first ≡ i + (first + 1) = omega arith in
      inr (
        later.0,
        later.1,
        one_more_suc (first + 1) ys i x d (Err fault) one (omega (arith, inside)) is later.2 (subst (λ (p : ℕ). judged p x one) position passes),
      )

  -- one thing more
  pub one_more : (first : ℕ) (xs : List X) (i : ℕ) (x d : X) (before one : Result ℕ F) → i < length xs → x ≡ get_or xs i d
      → InOrder judged first (take i xs) before → judged (i + first) x one → InOrder judged first (take (i + 1) xs) (joined before one)
  one_more first xs i x d before one inside is so_far passes =
      let next : suc i ≡ i + 1 = omega arith in
      subst (λ (n : ℕ). InOrder judged first (take n xs) (joined before one)) next (one_more_suc first xs i x d before one inside is so_far passes)

  -- all things
  pub all_judged : (first : ℕ) (xs : List X) (i : ℕ) (outcome : Result ℕ F) → length xs ≤ i → InOrder judged first (take i xs) outcome → InOrder judged first xs outcome
  all_judged first xs i outcome whole so_far = subst (λ (ys : List X). InOrder judged first ys outcome) (take_all i xs whole) so_far

  -- what fails among the first things fails among all
  pub first_fault : (first : ℕ) (xs : List X) (i : ℕ) (fault : F) → InOrder judged first (take i xs) (Err fault) → InOrder judged first xs (Err fault)
  first_fault first [] zero fault is = is
  first_fault first [] (suc i) fault is = is
  first_fault first (x ∷ xs) zero fault is = absurd is
  first_fault first (x ∷ xs) (suc i) fault (inl fails) = inl fails
  first_fault first (x ∷ xs) (suc i) fault (inr later) = inr (later.0, later.1, first_fault (first + 1) xs i fault later.2)

-- ---- how many are counted

module _ {F : Type 0} where
  pub few_below : (outcome : Result ℕ F) (i : ℕ) → i < 256 → IfOk outcome (λ count. count ≤ i) → IfOk outcome (λ count. count < 4294967296)
  few_below (Ok count) i few is = omega (arith, few, is)
  few_below (Err fault) i few is = is

  joined_few : (before one : Result ℕ F) (i : ℕ) → IfOk before (λ count. count ≤ i) → IfOk one (λ more. more ≡ 1) → IfOk (joined before one) (λ count. count ≤ i + 1)
  joined_few (Ok count) (Ok more) i few once = omega (arith, few, once)
  joined_few (Ok count) (Err fault) i few once = tt
  joined_few (Err fault) one i few once = tt

  pub few_further : (before one result : Result ℕ F) (i : ℕ) → result ≡ joined before one → IfOk before (λ count. count ≤ i) → IfOk one (λ more. more ≡ 1)
      → IfOk result (λ count. count ≤ i + 1)
  few_further before one result i is few once = subst (λ (r : Result ℕ F). IfOk r (λ count. count ≤ i + 1)) (sym is) (joined_few before one i few once)

  pub few_all : (outcome : Result ℕ F) (i : ℕ) → i ≤ 256 → IfOk outcome (λ count. count ≤ i) → IfOk outcome (λ count. count ≤ 256)
  few_all (Ok count) i few is = omega (arith, few, is)
  few_all (Err fault) i few is = is
