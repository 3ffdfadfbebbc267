-- Rows that cover a post are found or there are none, one of them has the least bound, and there is one such bound; budgets have one
-- greatest bound.
use Rattle.std.proofs.Common.{◌≡◌, ℕ, zero, suc, ◌+◌, ◌<◌, ◌≤◌, refl, sym, subst, ⊎_elim, arith, List, [], ◌∷◌, length, All}
use Rattle.std.proofs.lemmas.Bool.{cases_lt}
use Rattle.ags_domain.specs.Domain.{Meaning}
use Rattle.ags_row.specs.Cover.{Covers}
use Rattle.ags_row.specs.declared.posts.Post.{Post}
use Rattle.ags_row.specs.declared.rows.Row.{Row}
use Rattle.ags_safe.specs.Certificate.{Certificate}
use Rattle.ags_safe.specs.Accepted.{IsCovered}
use Rattle.ags_safe.proofs.DecisionLemmas.{is_covered}
use Rattle.ags_check.specs.Finding.{SomeRow, IsCover, IsCoveredBy}
use Rattle.ags_times.specs.Budget.{bound_of, IsGreatest}
use Rattle.ags_budget.specs.Timing.{IsLeastBound}

-- ---- some row, or none

pub both : {A B : Type 0} → Dec A → Dec B → Dec (A × B)
both (yes a) (yes b) = yes (a, b)
both (yes a) (no n) = no (λ p. n p.1)
both (no n) d = no (λ p. n p.0)

pub is_less : (m n : ℕ) → Dec (m < n)
is_less m n = ⊎_elim (λ less. yes less) (λ more. no (λ less. omega (arith, less, more))) (cases_lt m n)

pub is_at_most : (m n : ℕ) → Dec (m ≤ n)
is_at_most m n = ⊎_elim (λ less. no (λ most. omega (arith, less, most))) (λ more. yes more) (cases_lt n m)

module _ {D : Type 0} where
  -- a row has it at its number, and the rest have it at theirs
  behind : (has : ℕ → Row D → Type 0) (r : Row D) (rows : List (Row D)) → SomeRow (λ number row. has (number + 1) row) rows → SomeRow has (r ∷ rows)
  behind has r rows (position, row, inside, stands, is) =
      let number : (position + 1) + 1 ≡ suc position + 1 = omega arith in
      (suc position, row, omega (arith, inside), stands, subst (λ (n : ℕ). has n row) number is)

  first_or_behind : (has : ℕ → Row D → Type 0) (r : Row D) (rows : List (Row D)) → SomeRow has (r ∷ rows) → (has 1 r → ⊥)
      → (SomeRow (λ number row. has (number + 1) row) rows → ⊥) → ⊥
  first_or_behind has r rows (zero, row, inside, stands, is) first rest = first (subst (λ (x : Row D). has 1 x) (sym stands) is)
  first_or_behind has r rows (suc position, row, inside, stands, is) first rest =
      let number : suc position + 1 ≡ (position + 1) + 1 = omega arith in
      rest (position, row, omega (arith, inside), stands, subst (λ (n : ℕ). has n row) number is)

  one_more : (has : ℕ → Row D → Type 0) (r : Row D) (rows : List (Row D)) → Dec (has 1 r) → Dec (SomeRow (λ number row. has (number + 1) row) rows)
      → Dec (SomeRow has (r ∷ rows))
  one_more has r rows (yes first) rest = yes (zero, r, omega arith, refl, first)
  one_more has r rows (no first) (yes rest) = yes (behind has r rows rest)
  one_more has r rows (no first) (no rest) = no (λ some. first_or_behind has r rows some first rest)

  is_some_row : (has : ℕ → Row D → Type 0) → ((number : ℕ) (row : Row D) → Dec (has number row)) → (rows : List (Row D)) → Dec (SomeRow has rows)
  is_some_row has each [] = no (λ some. omega (arith, some.2))
  is_some_row has each (r ∷ rows) =
      one_more has r rows (each 1 r) (is_some_row (λ number row. has (number + 1) row) (λ number row. each (number + 1) row) rows)

  module _ (meaning : Meaning D) (cert : Certificate D) (base : Row D) (post : Post D) where
    alone : (target : Row D) → IsCovered meaning (record cert { rows = target ∷ [] }) base post → Covers meaning target base post cert.limits
    alone target (zero, row, inside, stands, covers) = subst (λ (r : Row D). Covers meaning r base post cert.limits) (sym stands) covers
    alone target (suc position, row, inside, stands, covers) = absurd (omega (arith, inside))

    covering : (target : Row D) → Dec (IsCovered meaning (record cert { rows = target ∷ [] }) base post) → Dec (Covers meaning target base post cert.limits)
    covering target (yes covered) = yes (alone target covered)
    covering target (no none) = no (λ covers. none (zero, target, omega arith, refl, covers))

    -- some row covers the post and serves, or none does
    pub is_covered_by : (serves : ℕ → Type 0) → ((number : ℕ) → Dec (serves number)) → Dec (IsCoveredBy meaning cert serves base post)
    is_covered_by serves each = is_some_row (IsCover meaning cert serves base post)
        (λ number target. both (covering target (is_covered meaning (record cert { rows = target ∷ [] }) base post)) (each number)) cert.rows

    -- ---- the least bound

    module _ (bounds : List ℕ) where
      abbrev Lesser : ℕ → Type 0
      Lesser least = IsCoveredBy meaning cert (λ number. bound_of bounds number < least) base post

      abbrev Has : ℕ → Type 0
      Has bound = IsCoveredBy meaning cert (λ number. bound_of bounds number ≡ bound) base post

      has_itself : (serves : ℕ → Type 0) (is : IsCoveredBy meaning cert serves base post) → Has (bound_of bounds (is.0 + 1))
      has_itself serves is = (is.0, is.1, is.2, is.3, (is.4.0, refl))

      -- a covering row has a bound below the limit; another one has a lesser one, or it is the least
      by_lesser : (limit bound : ℕ) → bound < limit → Has bound → Dec (Lesser bound) → (least : ℕ) × IsLeastBound meaning cert bounds base post least
      by_lesser zero bound below has d = absurd (omega (arith, below))
      by_lesser (suc limit) bound below has (no none) = (bound, record { some = has; none = none })
      by_lesser (suc limit) bound below has (yes lesser) =
          let next = bound_of bounds (lesser.0 + 1) in
          by_lesser limit next (omega (arith, below, lesser.4.1)) (has_itself (λ number. bound_of bounds number < bound) lesser)
          (is_covered_by (λ number. bound_of bounds number < next) (λ number. is_less (bound_of bounds number) next))

      -- a post that is covered has a least bound
      pub some_least : IsCovered meaning cert base post → (least : ℕ) × IsLeastBound meaning cert bounds base post least
      some_least is =
          let bound = bound_of bounds (is.0 + 1) in
          by_lesser (suc bound) bound (omega arith) (is.0, is.1, is.2, is.3, (is.4, refl))
          (is_covered_by (λ number. bound_of bounds number < bound) (λ number. is_less (bound_of bounds number) bound))

      not_lesser : (left right : ℕ) → Has left → (Lesser right → ⊥) → right ≤ left
      not_lesser left right has none = ⊎_elim
          (λ less. absurd (none (has.0, has.1, has.2, has.3, (has.4.0, omega (arith, less, has.4.1)))))
          (λ most. most)
          (cases_lt left right)

      -- and one
      pub one_least : (left right : ℕ) → IsLeastBound meaning cert bounds base post left → IsLeastBound meaning cert bounds base post right → left ≡ right
      one_least left right p r =
          let up = not_lesser right left r.some p.none in
          let down = not_lesser left right p.some r.none in
          omega (arith, up, down)

-- ---- the greatest bound

greatest_before : (number : ℕ) (numbers : List ℕ) (greatest : ℕ) → IsGreatest numbers greatest → number ≤ greatest → IsGreatest (number ∷ numbers) greatest
greatest_before number numbers greatest is less = record {
  among = (suc is.among.0, omega (arith, is.among.1), is.among.2);
  each = at;
}
  where
    at : All (λ n. n ≤ greatest) (number ∷ numbers)
    at zero d inside = less
    at (suc k) d inside = is.each k d (omega (arith, inside))

greatest_first : (number : ℕ) (numbers : List ℕ) (greatest : ℕ) → IsGreatest numbers greatest → greatest < number → IsGreatest (number ∷ numbers) number
greatest_first number numbers greatest is more = record {
  among = (zero, omega arith, refl);
  each = at;
}
  where
    at : All (λ n. n ≤ number) (number ∷ numbers)
    at zero d inside = omega arith
    at (suc k) d inside = let most = is.each k d (omega (arith, inside)) in omega (arith, most, more)

greatest_alone : (number : ℕ) → IsGreatest (number ∷ []) number
greatest_alone number = record {
  among = (zero, omega arith, refl);
  each = at;
}
  where
    at : All (λ n. n ≤ number) (number ∷ [])
    at zero d inside = omega arith
    at (suc k) d inside = absurd (omega (arith, inside))

pub some_greatest : (numbers : List ℕ) → 1 ≤ length numbers → (greatest : ℕ) × IsGreatest numbers greatest
some_greatest [] some = absurd (omega (arith, some))
some_greatest (number ∷ []) some = (number, greatest_alone number)
some_greatest (number ∷ next ∷ numbers) some =
    let rest = some_greatest (next ∷ numbers) (omega arith) in
    ⊎_elim
    (λ more. (number, greatest_first number (next ∷ numbers) rest.0 rest.1 more))
    (λ less. (rest.0, greatest_before number (next ∷ numbers) rest.0 rest.1 less))
    (cases_lt rest.0 number)

at_most : (numbers : List ℕ) (left right : ℕ) → IsGreatest numbers left → IsGreatest numbers right → left ≤ right
at_most numbers left right p r = subst (λ (n : ℕ). n ≤ right) p.among.2 (r.each p.among.0 left p.among.1)

pub one_greatest : (numbers : List ℕ) (left right : ℕ) → IsGreatest numbers left → IsGreatest numbers right → left ≡ right
one_greatest numbers left right p r =
    let up = at_most numbers left right p r in
    let down = at_most numbers right left r p in
    omega (arith, up, down)
