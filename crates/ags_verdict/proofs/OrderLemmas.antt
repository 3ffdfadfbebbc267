-- Things that are judged in order, as a loop goes through them.
use Rattle.std.proofs.Common.{◌≡◌, ℕ, zero, suc, ◌+◌, ◌<◌, ◌≤◌, refl, subst, arith, List, [], ◌∷◌, length, take, get_or, inl, inr}
use Rattle.std.specs.Prelude.{Result, Ok, Err}
use Rattle.std.proofs.lemmas.List.{take_all}
use Rattle.ags_verdict.specs.InOrder.{InOrder}

module _ {X F : Type 0} (judged : ℕ → X → Result ℕ F → Type 0) where
  further_suc : (first : ℕ) (xs : List X) (i count one : ℕ) (x d : X) → i < length xs → x ≡ get_or xs i d → InOrder judged first (take i xs) (Ok count)
      → judged (i + first) x (Ok one) → InOrder judged first (take (suc i) xs) (Ok (count + one))
  further_suc first [] i count one x d inside is so_far passes = absurd (omega (arith, inside))
  further_suc first (y ∷ ys) zero count one x d inside is so_far passes =
      let position : 0 + first ≡ first = omega arith in
      (one, 0, subst (λ (z : X). judged first z (Ok one)) is (subst (λ (p : ℕ). judged p x (Ok one)) position passes), refl, omega (arith, so_far))
  further_suc first (y ∷ ys) (suc i) count one x d inside is so_far passes =
      let position : suc i + first ≡ i + (first + 1) = omega arith in (
        so_far.0,
        so_far.1 + one,
        so_far.2,
        further_suc (first + 1) ys i so_far.1 one x d (omega (arith, inside)) is so_far.3
            (subst (λ (p : ℕ). judged p x (Ok one)) position passes),
        omega (arith, so_far.4),
      )

  -- one thing more has a count
  pub further : (first : ℕ) (xs : List X) (i count one : ℕ) (x d : X) → i < length xs → x ≡ get_or xs i d → InOrder judged first (take i xs) (Ok count)
      → judged (i + first) x (Ok one) → InOrder judged first (take (i + 1) xs) (Ok (count + one))
  further first xs i count one x d inside is so_far passes =
      let next : suc i ≡ i + 1 = omega arith in
      subst (λ (n : ℕ). InOrder judged first (take n xs) (Ok (count + one))) next (further_suc first xs i count one x d inside is so_far passes)

  -- one thing fails after those that have counts
  pub fails_at : (first : ℕ) (xs : List X) (i count : ℕ) (fault : F) (x d : X) → i < length xs → x ≡ get_or xs i d → InOrder judged first (take i xs) (Ok count)
      → judged (i + first) x (Err fault) → InOrder judged first xs (Err fault)
  fails_at first [] i count fault x d inside is so_far fails = absurd (omega (arith, inside))
  fails_at first (y ∷ ys) zero count fault x d inside is so_far fails =
      let position : 0 + first ≡ first = omega arith in
      inl (subst (λ (z : X). judged first z (Err fault)) is (subst (λ (p : ℕ). judged p x (Err fault)) position fails))
  fails_at first (y ∷ ys) (suc i) count fault x d inside is so_far fails =
      let position : suc i + first ≡ i + (first + 1) = omega arith in
      inr (
        so_far.0,
        so_far.2,
        fails_at (first + 1) ys i so_far.1 fault x d (omega (arith, inside)) is so_far.3
            (subst (λ (p : ℕ). judged p x (Err fault)) position fails),
      )

  -- all things have counts
  pub all_counted : (first : ℕ) (xs : List X) (i count : ℕ) → length xs ≤ i → InOrder judged first (take i xs) (Ok count) → InOrder judged first xs (Ok count)
  all_counted first xs i count whole so_far = subst (λ (ys : List X). InOrder judged first ys (Ok count)) (take_all i xs whole) so_far
