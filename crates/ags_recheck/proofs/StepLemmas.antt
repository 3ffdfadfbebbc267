-- How many steps it takes to judge rows again.
use Rattle.std.proofs.Common.{◌≡◌, ◌≢◌, ℕ, zero, suc, ◌+◌, ◌<◌, ◌≤◌, ◌⊎◌, Bool, true, false, refl, sym, subst, ◌∙◌, ⊎_elim, arith, List, [], ◌∷◌, length, get_or, take, inl, inr}
use Rattle.std.specs.Prelude.{Option, ◌==◌}
use Rattle.std.proofs.lemmas.Bool.{cases_lt, eqb-true}
use Rattle.std.proofs.lemmas.List.{take_all}
use Rattle.ags_domain.specs.Value.{value_meaning}
use Rattle.ags_domain.specs.declared.values.Value.{Value}
use Rattle.ags_ports.specs.declared.machines.Machine.{Machine}
use Rattle.ags_row.specs.Limit.{Limiting}
use Rattle.ags_row.specs.declared.rows.Row.{Row}
use Rattle.ags_verdict.specs.Counting.{HasCases}
use Rattle.ags_verdict.specs.Locality.{HasPostAt}
use Rattle.ags_certtype.specs.Cert.{Stated}
use Rattle.ags_recheck.specs.Bound.{HaveCasesAt}
use Rattle.ags_recheck.specs.Locations.{has_location}
use Rattle.ags_recheck.specs.Kept.{IsBeforeEdit}
use Rattle.ags_recheck.specs.declared.items.Item.{Item}
use Rattle.ags_recheck.proofs.EditLemmas.{apart_of}
use Rattle.ags_recheck.proofs.KeepingLemmas.{some_at}

module _ (machine : Machine) (image : List (Option ℕ)) (limits : Limiting Value) (one other : ℕ) where
  abbrev Has : Row Value → Type 0
  Has row = HasPostAt value_meaning machine image limits row one ⊎ HasPostAt value_meaning machine image limits row other

  -- the last of some rows has its cases, where a post goes to one of the locations
  abbrev Last : Row Value → (front cases : ℕ) → Type 0
  Last row front cases = (Has row × (own : ℕ) × HasCases value_meaning image limits row own × (cases ≡ front + own))
      ⊎ ((¬ HasPostAt value_meaning machine image limits row one) × (¬ HasPostAt value_meaning machine image limits row other) × (cases ≡ front))

  last_suc : (rows : List (Row Value)) (i cases : ℕ) (row : Row Value) → i < length rows → get_or rows i row ≡ row
      → HaveCasesAt machine image limits one other (take (suc i) rows) cases
      → (front : ℕ) × HaveCasesAt machine image limits one other (take i rows) front × Last row front cases
  last_suc [] i cases row inside is have = absurd (omega (arith, inside))
  last_suc (r ∷ rows) zero cases row inside is have = ⊎_elim
      (λ had. (0, refl, inl (subst Has is had.0, had.1, subst (λ (x : Row Value). HasCases value_meaning image limits x had.1) is had.2, omega (arith, have.1, had.3))))
      (λ none. (
        0,
        refl,
        inr (
          subst (λ (x : Row Value). ¬ HasPostAt value_meaning machine image limits x one) is none.0,
          subst (λ (x : Row Value). ¬ HasPostAt value_meaning machine image limits x other) is none.1,
          omega (arith, have.1, none.2),
        ),
      ))
      have.2
  last_suc (r ∷ rows) (suc i) cases row inside is have =
      let back = last_suc rows i have.0 row (omega (arith, inside)) is have.1 in
      ⊎_elim
      (λ had. (
        back.0 + had.1,
        (back.0, back.1, inl (had.0, had.1, had.2, omega arith)),
        ⊎_elim
            (λ own. inl (own.0, own.1, own.2, omega (arith, own.3, had.3)))
            (λ none. inr (none.0, none.1, omega (arith, none.2, had.3)))
            back.2,
      ))
      (λ without. (
        back.0,
        (back.0, back.1, inr (without.0, without.1, refl)),
        ⊎_elim
            (λ own. inl (own.0, own.1, own.2, omega (arith, own.3, without.2)))
            (λ none. inr (none.0, none.1, omega (arith, none.2, without.2)))
            back.2,
      ))
      have.2

  last_at : (rows : List (Row Value)) (i cases : ℕ) (row : Row Value) → i < length rows → get_or rows i row ≡ row
      → HaveCasesAt machine image limits one other (take (i + 1) rows) cases
      → (front : ℕ) × HaveCasesAt machine image limits one other (take i rows) front × Last row front cases
  last_at rows i cases row inside is have =
      let next : i + 1 ≡ suc i = omega arith in
      last_suc rows i cases row inside is (subst (λ (n : ℕ). HaveCasesAt machine image limits one other (take n rows) cases) next have)

  last_more : (row : Row Value) (front cases : ℕ) → Last row front cases → front ≤ cases
  last_more row front cases last = ⊎_elim (λ own. omega (arith, own.3)) (λ none. omega (arith, none.2)) last

  -- a row that has a post at one of the locations has its cases among those
  last_own : (row : Row Value) (front cases old new : ℕ) → Has row → Last row front cases
      → ((n : ℕ) → HasCases value_meaning image limits row n → new ≤ old + n) → new + front ≤ old + cases
  last_own row front cases old new has last steps = ⊎_elim
      (λ own. let taken = steps own.1 own.2 in omega (arith, taken, own.3))
      (λ none. absurd (⊎_elim none.0 none.1 has))
      last

module _ (machine : Machine) (image : List (Option ℕ)) (stated : Stated) (edited one other : ℕ) (before : List (Row Value)) (new : Row Value) (items : List Item)
    (is_before : IsBeforeEdit machine image stated edited one other before new items) (own : ℕ) (has_own : HasCases value_meaning image stated.limits new own) (start : ℕ) where
  abbrev HaveAt : List (Row Value) → ℕ → Type 0
  HaveAt = HaveCasesAt machine image stated.limits one other

  -- the steps up to a position
  abbrev pub Spent : ℕ → ℕ → Type 0
  Spent i steps = (others : ℕ) → HaveAt (take i before) others → (edited < i → steps ≤ start + own + others) × (i ≤ edited → steps ≤ start + others)

  pub none_spent : Spent 0 start
  none_spent others have = (λ early. omega (arith, early), λ late. omega arith)

  module _ (i steps after : ℕ) (row : Row Value) (item : Item) (inside : i < length stated.rows) (row_is : get_or stated.rows i row ≡ row) (item_is : get_or items i item ≡ item)
      (so_far : Spent i steps) (taken : (n : ℕ) → HasCases value_meaning image stated.limits row n → after ≤ steps + n)
      (idle : (i == edited) ≡ false → has_location item.locations one ≡ false → has_location item.locations other ≡ false → after ≡ steps) where
    inside_before : i < length before
    inside_before = subst (λ (n : ℕ). i < n) (sym is_before.whole) inside

    here : i ≡ edited → Spent (i + 1) after
    here same others have =
        let old = some_at before i inside_before in
        let last = last_at machine image stated.limits one other before i others old.0 inside_before old.1 have in
        let more = last_more machine image stated.limits one other old.0 last.0 others last.2 in
        let is_new : row ≡ new = is_before.new_stands row (subst (λ (n : ℕ). n < length stated.rows) same inside) (subst (λ (n : ℕ). get_or stated.rows n row ≡ row) same row_is) in
        let spent = taken own (subst (λ (r : Row Value). HasCases value_meaning image stated.limits r own) (sym is_new) has_own) in
        let was = (so_far last.0 last.1).1 (omega (arith, same)) in
        (λ done. omega (arith, spent, was, more), λ late. omega (arith, same, late))

    elsewhere : (i == edited) ≡ false → (b c : Bool) → has_location item.locations one ≡ b → has_location item.locations other ≡ c → Spent (i + 1) after
    elsewhere apart b c one_is other_is others have =
        let differs = apart_of i edited apart in
        let row_before : get_or before i row ≡ row = sym (is_before.others_stand i row differs) ∙ row_is in
        let last = last_at machine image stated.limits one other before i others row inside_before row_before have in
        let was = so_far last.0 last.1 in
        let bound = by_flags last.0 others last.2 apart b c one_is other_is in
        (λ done. (let w = was.0 (early done differs) in omega (arith, w, bound)), λ late. (let w = was.1 (omega (arith, late)) in omega (arith, w, bound)))
      where
        early : edited < i + 1 → i ≢ edited → edited < i
        early done differs = ⊎_elim (λ less. less) (λ more. absurd (differs (omega (arith, done, more)))) (cases_lt edited i)

        by_flags : (front cases : ℕ) → Last machine image stated.limits one other row front cases → (i == edited) ≡ false
            → (b c : Bool) → has_location item.locations one ≡ b → has_location item.locations other ≡ c → after + front ≤ steps + cases
        by_flags front cases last apart true c one_is other_is = last_own machine image stated.limits one other row front cases steps after
            (inl (is_before.one_noted i row item inside (apart_of i edited apart) row_is item_is one_is)) last taken
        by_flags front cases last apart false true one_is other_is = last_own machine image stated.limits one other row front cases steps after
            (inr (is_before.other_noted i row item inside (apart_of i edited apart) row_is item_is other_is)) last taken
        by_flags front cases last apart false false one_is other_is =
            let same = idle apart one_is other_is in
            let more = last_more machine image stated.limits one other row front cases last in
            omega (arith, same, more)

    pub spent_further : Spent (i + 1) after
    spent_further = by (i == edited) refl
      where
        by : (b : Bool) → (i == edited) ≡ b → Spent (i + 1) after
        by true same = here (eqb-true i edited same)
        by false apart = elsewhere apart (has_location item.locations one) (has_location item.locations other) refl refl

  pub all_spent : (i steps others : ℕ) → length stated.rows ≤ i → Spent i steps → HaveAt before others → steps ≤ start + own + others
  all_spent i steps others whole so_far have =
      let all : length before ≤ i = subst (λ (n : ℕ). n ≤ i) (sym is_before.whole) whole in
      let at = so_far others (subst (λ (xs : List (Row Value)). HaveAt xs others) (sym (take_all i before all)) have) in
      ⊎_elim (λ less. at.0 less) (λ more. let w = at.1 more in omega (arith, w)) (cases_lt edited i)
