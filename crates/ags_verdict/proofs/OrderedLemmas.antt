-- Things in order, and walks over rows, have an outcome where each thing or case has one, and one alone where each has one alone.
use Rattle.std.proofs.Common.{◌≡◌, ℕ, zero, suc, ◌+◌, ◌<◌, length, get_or, refl, sym, ap, subst, ◌∙◌, arith, List, [], ◌∷◌, inl, inr}
use Rattle.std.specs.Prelude.{Option, Some, None, Result, Ok, Err}
use Rattle.std.specs.List.{AllByRecursion}
use Rattle.ags_domain.specs.Domain.{Meaning}
use Rattle.ags_domain.specs.declared.word_sets.WordSet.{WordSet}
use Rattle.ags_row.specs.Limit.{Limiting}
use Rattle.ags_row.specs.declared.rows.Row.{Row}
use Rattle.ags_safe.proofs.CodeLemmas.{code_one}
use Rattle.ags_verdict.specs.InOrder.{InOrder}
use Rattle.ags_verdict.specs.RowCase.{RowCase, cases_in}
use Rattle.ags_verdict.specs.Walk.{IsWalkedWith, IsWalked, IsWalkedAt, AreWalked}
use Rattle.ags_verdict.specs.declared.walks.AtRow.{AtRow}

ok_err : {F : Type 0} (count : ℕ) (fault : F) → ◌≡◌ {A = Result ℕ F} (Ok count) (Err fault) → ⊥
ok_err count fault same = cc

ok_one : {F : Type 0} (left right : ℕ) → ◌≡◌ {A = Result ℕ F} (Ok left) (Ok right) → left ≡ right
ok_one left right same = cc

err_one : {F : Type 0} (left right : F) → ◌≡◌ {A = Result ℕ F} (Err left) (Err right) → left ≡ right
err_one left right same = cc

module _ {X F : Type 0} (judged : ℕ → X → Result ℕ F → Type 0) where
  -- ---- some

  abbrev HasSum : ℕ → List X → Type 0
  HasSum position xs = (outcome : Result ℕ F) × InOrder judged position xs outcome

  summed : (position : ℕ) (x : X) (xs : List X) → (outcome : Result ℕ F) × judged position x outcome → HasSum (position + 1) xs → HasSum position (x ∷ xs)
  summed position x xs (Err told, fails) later = (Err told, inl fails)
  summed position x xs (Ok one, is) (Err told, fails) = (Err told, inr (one, is, fails))
  summed position x xs (Ok one, is) (Ok rest, are) = (Ok (one + rest), (one, rest, is, are, refl))

  pub some_in_order : (P : X → Type 0) → ((position : ℕ) (x : X) → P x → (outcome : Result ℕ F) × judged position x outcome)
      → (position : ℕ) (xs : List X) → AllByRecursion P xs → HasSum position xs
  some_in_order P some position [] each = (Ok 0, refl)
  some_in_order P some position (x ∷ xs) each = summed position x xs (some position x each.0) (some_in_order P some (position + 1) xs each.1)

  -- where each counts, they are counted
  pub counted_in_order : (P : X → Type 0) → ((position : ℕ) (x : X) → P x → (count : ℕ) × judged position x (Ok count))
      → (position : ℕ) (xs : List X) → AllByRecursion P xs → (count : ℕ) × InOrder judged position xs (Ok count)
  counted_in_order P some position [] each = (0, refl)
  counted_in_order P some position (x ∷ xs) each =
      let head = some position x each.0 in
      let tail = counted_in_order P some (position + 1) xs each.1 in
      (head.0 + tail.0, (head.0, tail.0, head.1, tail.1, refl))

  -- ---- each

  -- of things that are counted each counts
  pub each_at : (first : ℕ) (xs : List X) (count i : ℕ) (x : X) → i < length xs → get_or xs i x ≡ x → InOrder judged first xs (Ok count)
      → (one : ℕ) × judged (i + first) x (Ok one)
  each_at first [] count i x inside is are = absurd (omega (arith, inside))
  each_at first (y ∷ ys) count zero x inside is are =
      let position : first ≡ 0 + first = omega arith in
      (are.0, subst (λ (n : ℕ). judged n x (Ok are.0)) position (subst (λ (z : X). judged first z (Ok are.0)) is are.2))
  each_at first (y ∷ ys) count (suc i) x inside is are =
      let position : i + (first + 1) ≡ suc i + first = omega arith in
      let rest = each_at (first + 1) ys are.1 i x (omega (arith, inside)) is are.3 in
      (rest.0, subst (λ (n : ℕ). judged n x (Ok rest.0)) position rest.1)

  pub each_counted : (P : X → Type 0) → ((position : ℕ) (x : X) (count : ℕ) → judged position x (Ok count) → P x)
      → (first : ℕ) (xs : List X) (count : ℕ) → InOrder judged first xs (Ok count) → AllByRecursion P xs
  each_counted P counts first [] count are = tt
  each_counted P counts first (x ∷ xs) count are = (counts first x are.0 are.2, each_counted P counts (first + 1) xs are.1 are.3)

  -- where each counts at its position, they are counted
  pub counted_at : (first : ℕ) (xs : List X) → ((i : ℕ) (x : X) → i < length xs → get_or xs i x ≡ x → (count : ℕ) × judged (i + first) x (Ok count))
      → (count : ℕ) × InOrder judged first xs (Ok count)
  counted_at first [] each = (0, refl)
  counted_at first (x ∷ xs) each =
      let position : 0 + first ≡ first = omega arith in
      let head = each zero x (omega arith) refl in
      let tail = counted_at (first + 1) xs (λ i y inside is.
      let later : suc i + first ≡ i + (first + 1) = omega arith in
      let one = each (suc i) y (omega (arith, inside)) is in
      (one.0, subst (λ (n : ℕ). judged n y (Ok one.0)) later one.1)) in
      (head.0 + tail.0, (head.0, tail.0, subst (λ (n : ℕ). judged n x (Ok head.0)) position head.1, tail.1, refl))

  -- ---- one

  module _ (one : (position : ℕ) (x : X) (left right : Result ℕ F) → judged position x left → judged position x right → left ≡ right) where
    not_both : (position : ℕ) (xs : List X) (count : ℕ) (fault : F) → InOrder judged position xs (Ok count) → InOrder judged position xs (Err fault) → ⊥
    not_both position [] count fault p r = r
    not_both position (x ∷ xs) count fault p (inl fails) = ok_err p.0 fault (one position x (Ok p.0) (Err fault) p.2 fails)
    not_both position (x ∷ xs) count fault p (inr later) = not_both (position + 1) xs p.1 fault p.3 later.2

    counts_one : (position : ℕ) (xs : List X) (left right : ℕ) → InOrder judged position xs (Ok left) → InOrder judged position xs (Ok right) → left ≡ right
    counts_one position [] left right p r = p ∙ sym r
    counts_one position (x ∷ xs) left right p r =
        let head : p.0 ≡ r.0 = ok_one p.0 r.0 (one position x (Ok p.0) (Ok r.0) p.2 r.2) in
        let tail : p.1 ≡ r.1 = counts_one (position + 1) xs p.1 r.1 p.3 r.3 in
        omega (arith, head, tail, p.4, r.4)

    faults_one : (position : ℕ) (xs : List X) (left right : F) → InOrder judged position xs (Err left) → InOrder judged position xs (Err right) → left ≡ right
    faults_one position [] left right p r = absurd p
    faults_one position (x ∷ xs) left right (inl p) (inl r) = err_one left right (one position x (Err left) (Err right) p r)
    faults_one position (x ∷ xs) left right (inl p) (inr r) = absurd (ok_err r.0 left (one position x (Ok r.0) (Err left) r.1 p))
    faults_one position (x ∷ xs) left right (inr p) (inl r) = absurd (ok_err p.0 right (one position x (Ok p.0) (Err right) p.1 r))
    faults_one position (x ∷ xs) left right (inr p) (inr r) = faults_one (position + 1) xs left right p.2 r.2

    pub one_in_order : (position : ℕ) (xs : List X) (left right : Result ℕ F) → InOrder judged position xs left → InOrder judged position xs right
        → left ≡ right
    one_in_order position xs (Ok left) (Ok right) p r = ap (λ (n : ℕ). Ok n) (counts_one position xs left right p r)
    one_in_order position xs (Ok left) (Err right) p r = absurd (not_both position xs left right p r)
    one_in_order position xs (Err left) (Ok right) p r = absurd (not_both position xs right left r p)
    one_in_order position xs (Err left) (Err right) p r = ap (λ (f : F). Err f) (faults_one position xs left right p r)

-- a row and its fault are what is told
at_row_one : {F : Type 0} (left right : AtRow F) → left.row ≡ right.row → left.fault ≡ right.fault → left ≡ right
at_row_one {F} left right p r = made left.row right.row left.fault right.fault p r
  where
    made : (m n : ℕ) (f g : F) → m ≡ n → f ≡ g → ◌≡◌ {A = AtRow F} (record { row = m; fault = f }) (record { row = n; fault = g })
    made m n f g p r = cc

module _ {D F : Type 0} (meaning : Meaning D) (image : List (Option ℕ)) (limits : Limiting D) (unknown : Result ℕ F)
    (judges : ℕ → Row D → RowCase → Result ℕ F → Type 0) where
  -- what comes of a row tells its number too
  pub with_number : (number : ℕ) (row : Row D) → (outcome : Result ℕ F) × IsWalked meaning image limits unknown judges number row outcome
      → (outcome : Result ℕ (AtRow F)) × IsWalkedAt meaning image limits unknown judges number row outcome
  with_number number row (Ok count, is) = (Ok count, is)
  with_number number row (Err fault, is) = (Err (record { row = number; fault = fault }), (is, refl))

  module _ (one : (number : ℕ) (row : Row D) (c : RowCase) (left right : Result ℕ F) → judges number row c left → judges number row c right
      → left ≡ right) where
    with_one : (number : ℕ) (row : Row D) (code : Option WordSet) (left right : Result ℕ F)
        → IsWalkedWith meaning image limits unknown judges number row code left
        → IsWalkedWith meaning image limits unknown judges number row code right → left ≡ right
    with_one number row None left right p r = p ∙ sym r
    with_one number row (Some code) left right p r =
        one_in_order (λ position c. judges number row c) (λ position c. one number row c) 0 (cases_in row code.list) left right p r

    row_one : (number : ℕ) (row : Row D) (left right : Result ℕ F)
        → IsWalked meaning image limits unknown judges number row left → IsWalked meaning image limits unknown judges number row right → left ≡ right
    row_one number row left right p r =
        let same : p.0 ≡ r.0 = code_one meaning image limits row p.0 r.0 p.1 r.1 in
        with_one number row p.0 left right p.2
        (subst (λ (code : Option WordSet). IsWalkedWith meaning image limits unknown judges number row code right) (sym same) r.2)

    row_at_one : (number : ℕ) (row : Row D) (left right : Result ℕ (AtRow F))
        → IsWalkedAt meaning image limits unknown judges number row left → IsWalkedAt meaning image limits unknown judges number row right → left ≡ right
    row_at_one number row (Ok left) (Ok right) p r = ap (λ (n : ℕ). Ok n) (ok_one left right (row_one number row (Ok left) (Ok right) p r))
    row_at_one number row (Ok left) (Err right) p r = absurd (ok_err left right.fault (row_one number row (Ok left) (Err right.fault) p r.0))
    row_at_one number row (Err left) (Ok right) p r = absurd (ok_err right left.fault (row_one number row (Ok right) (Err left.fault) r p.0))
    row_at_one number row (Err left) (Err right) p r =
        let fault : left.fault ≡ right.fault = err_one left.fault right.fault (row_one number row (Err left.fault) (Err right.fault) p.0 r.0) in
        ap (λ (told : AtRow F). Err told) (at_row_one left right (p.1 ∙ sym r.1) fault)

    pub one_walk : (rows : List (Row D)) (left right : Result ℕ (AtRow F))
        → AreWalked meaning image limits unknown judges rows left → AreWalked meaning image limits unknown judges rows right → left ≡ right
    one_walk rows left right p r = one_in_order (λ n row o. IsWalkedAt meaning image limits unknown judges n row o) row_at_one 1 rows left right p r
