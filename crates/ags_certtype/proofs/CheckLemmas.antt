-- What the checks of the parts of a certificate cite: rows are counted one after another.
use Rattle.std.proofs.Common.{◌≡◌, ◌≢◌, ℕ, ◌+◌, ◌<◌, ◌≤◌, Bool, true, false, refl, sym, ap, subst, ◌∙◌, ⊎_elim, List, length, get_or, take, set, arith}
use Rattle.std.specs.Prelude.{◌==◌, IsTrue, replicate, if◌then◌else◌}
use Rattle.std.proofs.lemmas.Bool.{eq-eqb, cases_lt}
use Rattle.std.proofs.lemmas.Bool.Decides.{nat_tests}
use Rattle.std.proofs.lemmas.List.{get_or-set_same, get_or-set_other, length-replicate, length-set, take_all}
use Rattle.std.proofs.lemmas.Grind.{get_or_default_zero}
use Rattle.std.proofs.lemmas.List.Sums.{sum_by_more, sum_by-take-le}
use Rattle.ags_row.specs.declared.rows.Row.{Row}
use Rattle.ags_row.proofs.LimitLemmas.{each_same}
use Rattle.ags_certtype.specs.Cert.{rows_at}

-- ---- answers of checks

-- a check that fails
pub refused : {P : Type 0} → (P → ⊥) → (IsTrue false → P) × (P → IsTrue false)
refused never = (λ h. grind (arith, nat_tests), λ p. absurd (never p))

-- a check that holds
pub taken : {P : Type 0} → P → (IsTrue true → P) × (P → IsTrue true)
taken p = (λ h. p, λ h. refl)

-- what holds below a number and of it holds below the next
pub one_further : (P : ℕ → Type 0) (i : ℕ) → ((k : ℕ) → k < i → P k) → P i → (k : ℕ) → k < i + 1 → P k
one_further P i before here k near =
    ⊎_elim (λ less. before k less) (λ more. let same : i ≡ k = omega arith in subst P same here) (cases_lt k i)

-- ---- counting the rows at each location

-- the rows up to a place are counted, and few stand at each location
pub record Counted {D : Type 0} (rows : List (Row D)) (i : ℕ) (counts : List ℕ) : Type 0 where
  pub places : length counts ≡ 4096
  pub are : (location : ℕ) → get_or counts location 0 ≡ rows_at (take i rows) location
  pub few : (location : ℕ) → rows_at (take i rows) location ≤ 512

pub none_counted : {D : Type 0} (rows : List (Row D)) (counts : List ℕ) → counts ≡ replicate 4096 0 → Counted rows 0 counts
none_counted rows counts is = record {
  places = ap (λ (xs : List ℕ). length xs) is ∙ length-replicate {A = ℕ} 4096 0;
  are = λ location. ap (λ (xs : List ℕ). get_or xs location 0) is ∙ each_same {E = ℕ} 4096 0 location;
  few = λ location. omega arith;
}

-- a count that was read
pub read_count : (counts : List ℕ) (place location count : ℕ) → place ≡ location → count ≡ get_or counts place count → place < length counts
    → count ≡ get_or counts location 0
read_count counts place location count same is inside =
    is ∙ get_or_default_zero counts place count inside ∙ ap (λ (n : ℕ). get_or counts n 0) same

same_of : (a b : ℕ) → (a == b) ≡ true → a ≡ b
same_of a b h = grind (arith, nat_tests)

other_of : (a b : ℕ) → (a == b) ≡ false → b ≢ a
other_of a b h = grind (arith, nat_tests)

module _ {D : Type 0} (rows : List (Row D)) (i : ℕ) (counts : List ℕ) (counted : Counted rows i counts) (row : Row D)
    (inside : i < length rows) (is : row ≡ get_or rows i row) where
  -- one row more at its own location
  further_at : (location : ℕ) (b : Bool) → (row.location == location) ≡ b
      → rows_at (take (i + 1) rows) location ≡ rows_at (take i rows) location + (if b then 1 else 0)
  further_at location b same = sum_by_more (λ (r : Row D). if r.location == location then 1 else 0) rows i row inside
      ∙ ap (λ (x : Bool). rows_at (take i rows) location + (if x then 1 else 0)) (ap (λ (r : Row D). r.location == location) (sym is) ∙ same)

  own : (row.location == row.location) ≡ true
  own = eq-eqb row.location row.location refl

  counts_after : row.location < length counts → (location : ℕ) (b : Bool) → (row.location == location) ≡ b
      → get_or (set counts row.location (get_or counts row.location 0 + 1)) location 0 ≡ rows_at (take (i + 1) rows) location
  counts_after below location true same =
      let here = same_of row.location location same in
      ap (λ (n : ℕ). get_or (set counts row.location (get_or counts row.location 0 + 1)) n 0) (sym here)
      ∙ get_or-set_same counts row.location (get_or counts row.location 0 + 1) 0 below
      ∙ ap (λ (n : ℕ). get_or counts n 0 + 1) here
      ∙ ap (λ (n : ℕ). n + 1) (counted.are location) ∙ sym (further_at location true same)
  counts_after below location false same =
      let further = further_at location false same in
      let before = counted.are location in
      let kept = get_or-set_other counts row.location location (get_or counts row.location 0 + 1) 0 (other_of row.location location same) in
      omega arith

  few_after : get_or counts row.location 0 < 512 → (location : ℕ) (b : Bool) → (row.location == location) ≡ b
      → rows_at (take (i + 1) rows) location ≤ 512
  few_after room location true same =
      let here = same_of row.location location same in
      let further = further_at location true same in
      let before : get_or counts row.location 0 ≡ rows_at (take i rows) location =
      ap (λ (n : ℕ). get_or counts n 0) here ∙ counted.are location in
      omega arith
  few_after room location false same =
      let further = further_at location false same in
      let before = counted.few location in
      omega arith

  pub counted_further : (count : ℕ) → count ≡ get_or counts row.location 0 → row.location < 4096 → count < 512
      → Counted rows (i + 1) (set counts row.location (count + 1))
  counted_further count count_is below room = record {
    places = length-set counts row.location (count + 1) ∙ counted.places;
    are = λ location. ap (λ (n : ℕ). get_or (set counts row.location (n + 1)) location 0) count_is
        ∙ counts_after (let whole = counted.places in omega arith) location (row.location == location) refl;
    few = λ location. few_after (let less = room in let same = count_is in omega arith) location (row.location == location) refl;
  }

  pub too_many : (count : ℕ) → count ≡ get_or counts row.location 0 → 512 ≤ count
      → ((location : ℕ) → rows_at rows location ≤ 512) → ⊥
  too_many count count_is many all =
      let further = further_at row.location true own in
      let before = counted.are row.location in
      let part = sum_by-take-le (λ (r : Row D). if r.location == row.location then 1 else 0) rows (i + 1) in
      let most = all row.location in
      omega arith

-- all rows are counted
pub all_counted : {D : Type 0} (rows : List (Row D)) (i : ℕ) (counts : List ℕ) → Counted rows i counts → length rows ≤ i
    → (location : ℕ) → rows_at rows location ≤ 512
all_counted {D} rows i counts counted whole location =
    subst (λ (xs : List (Row D)). rows_at xs location ≤ 512) (take_all i rows whole) (counted.few location)
