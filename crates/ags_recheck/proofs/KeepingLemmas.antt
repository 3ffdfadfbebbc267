-- Items of rows, as a loop makes them anew.
use Rattle.std.proofs.Common.{◌≡◌, ℕ, zero, suc, ◌+◌, ◌<◌, ◌≤◌, refl, sym, ap, subst, ◌∙◌, ⊎_elim, arith, List, [], ◌∷◌, length, get_or, set}
use Rattle.std.proofs.lemmas.Bool.{cases_lt}
use Rattle.std.proofs.lemmas.List.{get_or-set_same, get_or-set_other, get_or_default}

-- there is an element at each position
pub some_at : {X : Type 0} (xs : List X) (i : ℕ) → i < length xs → (x : X) × (get_or xs i x ≡ x)
some_at [] i inside = absurd (omega (arith, inside))
some_at (x ∷ xs) zero inside = (x, refl)
some_at (x ∷ xs) (suc i) inside = some_at xs i (omega (arith, inside))

module _ {R I : Type 0} (K : R → I → Type 0) (rows : List R) (items : List I) (p : ℕ) where
  -- the items before a position are those of their rows
  abbrev pub Before : ℕ → List I → Type 0
  Before n xs = (position : ℕ) (row : R) (item : I) → position < n → position < length rows → get_or rows position row ≡ row → get_or xs position item ≡ item
      → K row item

  pub one_more : (row : R) (new : I) → p < length rows → length items ≡ length rows → row ≡ get_or rows p row → K row new → Before p items
      → Before (p + 1) (set items p new)
  one_more row new inside whole is kept before position other item near below other_is item_is = ⊎_elim
      (λ less. before position other item less below other_is
      (sym (get_or-set_other items p position new item (λ same. let n = same in omega (arith, less, n))) ∙ item_is))
      (λ more.
      let same : position ≡ p = omega (arith, near, more) in
      let row_same : row ≡ other = is ∙ get_or_default rows p row other inside ∙ ap (λ (n : ℕ). get_or rows n other) (sym same) ∙ other_is in
      let item_same : new ≡ item =
      sym (get_or-set_same items p new item (subst (λ (n : ℕ). p < n) (sym whole) inside)) ∙ ap (λ (n : ℕ). get_or (set items p new) n item) (sym same) ∙ item_is in
      subst (λ (r : R). K r item) row_same (subst (λ (i : I). K row i) item_same kept))
      (cases_lt position p)

  pub others_stay : (old : List I) (new : I) → ((position : ℕ) (d : I) → p ≤ position → get_or items position d ≡ get_or old position d)
      → (position : ℕ) (d : I) → p + 1 ≤ position → get_or (set items p new) position d ≡ get_or old position d
  others_stay old new before position d behind =
      get_or-set_other items p position new d (λ same. let n = same in omega (arith, behind, n)) ∙ before position d (omega (arith, behind))
