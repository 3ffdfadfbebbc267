-- Things that are judged in order.
use Rattle.std.proofs.Common.{◌≡◌, ℕ, ◌+◌, refl, sym, ap, subst, ◌∙◌, arith, List, [], ◌∷◌, ◌++◌, length, inl, inr}
use Rattle.std.specs.Prelude.{Result, Ok, Err}
use Rattle.std.specs.List.{AllByRecursion}
use Rattle.ags_verdict.specs.InOrder.{InOrder}

module _ {X F : Type 0} (judged : ℕ → X → Result ℕ F → Type 0) where
  -- where no thing has a fault, what being without one comes with holds of each
  pub each_in_order : (P : X → Type 0) → ((position : ℕ) (x : X) (count : ℕ) → judged position x (Ok count) → P x) → (position : ℕ) (xs : List X)
      (count : ℕ) → InOrder judged position xs (Ok count) → AllByRecursion P xs
  each_in_order P one position [] count is = tt
  each_in_order P one position (x ∷ xs) count is = (one position x is.0 is.2, each_in_order P one (position + 1) xs is.1 is.3)

  -- where what a thing without a fault is holds of each, they have a count
  pub in_order_each : (P : X → Type 0) → ((position : ℕ) (x : X) → P x → (count : ℕ) × judged position x (Ok count)) → (position : ℕ) (xs : List X)
      → AllByRecursion P xs → (count : ℕ) × InOrder judged position xs (Ok count)
  in_order_each P one position [] each = (0, refl)
  in_order_each P one position (x ∷ xs) each =
      let head = one position x each.0 in
      let tail = in_order_each P one (position + 1) xs each.1 in
      (head.0 + tail.0, (head.0, tail.0, head.1, tail.1, refl))

  -- things that count once each are counted
  pub counts_each : ((position : ℕ) (x : X) (count : ℕ) → judged position x (Ok count) → count ≡ 1) → (position : ℕ) (xs : List X) (count : ℕ)
      → InOrder judged position xs (Ok count) → count ≡ length xs
  counts_each once position [] count is = is
  counts_each once position (x ∷ xs) count is =
      let head : is.0 ≡ 1 = once position x is.0 is.2 in
      let tail : is.1 ≡ length xs = counts_each once (position + 1) xs is.1 is.3 in
      omega (arith, head, tail, is.4)

  -- the first fault of things in order: what stands before the thing that has it, the thing, and what stands after it
  pub record FirstFault (P : X → Type 0) (position : ℕ) (xs : List X) (fault : F) : Type 0 where
    pub before : List X
    pub thing : X
    pub behind : List X
    pub splits : xs ≡ before ++ (thing ∷ behind)
    pub passed : AllByRecursion P before
    pub is : judged (length before + position) thing (Err fault)

  pub first_fault_of : (P : X → Type 0) → ((position : ℕ) (x : X) (count : ℕ) → judged position x (Ok count) → P x) → (position : ℕ) (xs : List X)
      (fault : F) → InOrder judged position xs (Err fault) → FirstFault P position xs fault
  first_fault_of P one position [] fault is = absurd is
  first_fault_of P one position (x ∷ xs) fault (inl fails) =
      record { before = []; thing = x; behind = xs; splits = refl; passed = tt; is = subst (λ (n : ℕ). judged n x (Err fault)) (omega arith) fails }
  first_fault_of P one position (x ∷ xs) fault (inr later) =
      let rest = first_fault_of P one (position + 1) xs fault later.2 in
      record {
        before = x ∷ rest.before;
        thing = rest.thing;
        behind = rest.behind;
        splits = ap (λ (ys : List X). x ∷ ys) rest.splits;
        passed = (one position x later.0 later.1, rest.passed);
        is = subst (λ (n : ℕ). judged n rest.thing (Err fault)) (omega arith) rest.is;
      }

  module _ (one : (position : ℕ) (x : X) (left right : Result ℕ F) → judged position x left → judged position x right → left ≡ right) where
    no_fault : (position : ℕ) (x : X) (count : ℕ) (fault : F) → judged position x (Ok count) → judged position x (Err fault) → ⊥
    no_fault position x count fault p r = let same : ◌≡◌ {A = Result ℕ F} (Ok count) (Err fault) = one position x (Ok count) (Err fault) p r in cc

    same_count : (position : ℕ) (x : X) (left right : ℕ) → judged position x (Ok left) → judged position x (Ok right) → left ≡ right
    same_count position x left right p r = let same : ◌≡◌ {A = Result ℕ F} (Ok left) (Ok right) = one position x (Ok left) (Ok right) p r in cc

    not_both : (position : ℕ) (xs : List X) (count : ℕ) (fault : F) → InOrder judged position xs (Ok count) → InOrder judged position xs (Err fault) → ⊥
    not_both position [] count fault p r = r
    not_both position (x ∷ xs) count fault p (inl fails) = no_fault position x p.0 fault p.2 fails
    not_both position (x ∷ xs) count fault p (inr later) = not_both (position + 1) xs p.1 fault p.3 later.2

    counts_one : (position : ℕ) (xs : List X) (left right : ℕ) → InOrder judged position xs (Ok left) → InOrder judged position xs (Ok right) → left ≡ right
    counts_one position [] left right p r = p ∙ sym r
    counts_one position (x ∷ xs) left right p r =
        let head : p.0 ≡ r.0 = same_count position x p.0 r.0 p.2 r.2 in
        let tail : p.1 ≡ r.1 = counts_one (position + 1) xs p.1 r.1 p.3 r.3 in
        omega (arith, head, tail, p.4, r.4)

    faults_one : (position : ℕ) (xs : List X) (left right : F) → InOrder judged position xs (Err left) → InOrder judged position xs (Err right) → left ≡ right
    faults_one position [] left right p r = absurd p
    faults_one position (x ∷ xs) left right (inl p) (inl r) =
        let same : ◌≡◌ {A = Result ℕ F} (Err left) (Err right) = one position x (Err left) (Err right) p r in cc
    faults_one position (x ∷ xs) left right (inl p) (inr r) = absurd (no_fault position x r.0 left r.1 p)
    faults_one position (x ∷ xs) left right (inr p) (inl r) = absurd (no_fault position x p.0 right p.1 r)
    faults_one position (x ∷ xs) left right (inr p) (inr r) = faults_one (position + 1) xs left right p.2 r.2

    -- things in order have one outcome, where each has
    pub in_order_one : (position : ℕ) (xs : List X) (left right : Result ℕ F) → InOrder judged position xs left → InOrder judged position xs right
        → left ≡ right
    in_order_one position xs (Ok left) (Ok right) p r = ap (λ (n : ℕ). Ok n) (counts_one position xs left right p r)
    in_order_one position xs (Ok left) (Err right) p r = absurd (not_both position xs left right p r)
    in_order_one position xs (Err left) (Ok right) p r = absurd (not_both position xs right left r p)
    in_order_one position xs (Err left) (Err right) p r = ap (λ (f : F). Err f) (faults_one position xs left right p r)
