-- Rows that are sought among those at a location.
use Rattle.std.proofs.Common.{◌≡◌, ℕ, ◌+◌, ◌-◌, ◌<◌, ◌≤◌, true, false, sym, ap, subst, ◌∙◌, ⊎_elim, arith, List, length, get_or}
use Rattle.std.specs.Prelude.{Option, Some, None, is_some, Any, ⊤, ◌↔◌}
use Rattle.std.proofs.lemmas.Bool.{cases_lt}
use Rattle.std.proofs.lemmas.List.{get_or_default}
use Rattle.ags_domain.specs.declared.values.Value.{Value}
use Rattle.ags_row.specs.declared.rows.Row.{Row}
use Rattle.ags_certtype.specs.Index.{numbers_at, StandsAmong}
use Rattle.ags_certtype.proofs.NumberLemmas.{of_a_row, each_listed}
use Rattle.ags_check.specs.Finding.{SomeRow, IsFound}

-- none of the first numbers is that of a row that has what is sought
abbrev pub NoneSoFar : (ℕ → Row Value → Type 0) → List (Row Value) → (numbers : List ℕ) → (count : ℕ) → Type 0
NoneSoFar has rows numbers count = (i : ℕ) (d : Row Value) → i < count
    → ¬ has (get_or numbers i 0) (get_or rows (get_or numbers i 0 - 1) d)

module _ (has : ℕ → Row Value → Type 0) (rows : List (Row Value)) (numbers : List ℕ) (location : ℕ) (listed : numbers ≡ numbers_at rows location) where
  pub numbered : (i : ℕ) → i < length numbers → (1 ≤ get_or numbers i 0) × (get_or numbers i 0 - 1 < length rows)
  numbered i inside =
      let row = of_a_row rows location i (subst (λ ns. i < length ns) listed inside) in
      let same = ap (λ ns. get_or ns i 0) listed in
      (omega (arith, row.0, same), omega (arith, row.0, row.1, same))

  module _ (i : ℕ) (row : Row Value) (inside : i < length numbers) (is : row ≡ get_or rows (get_or numbers i 0 - 1) row) where
    -- the row of a number has it
    pub found : has (get_or numbers i 0) row → IsFound has rows (Some (get_or numbers i 0))
    found passes =
        let here = numbered i inside in
        (get_or numbers i 0 - 1, row, here.1, sym is, passes, omega (arith, here.0))

    -- it hasn't
    pub none_further : NoneSoFar has rows numbers i → ¬ has (get_or numbers i 0) row → NoneSoFar has rows numbers (i + 1)
    none_further before fails k d near p = ⊎_elim
        (λ less. before k d less p)
        (λ more.
        let same : k ≡ i = omega arith in
        let read : get_or rows (get_or numbers i 0 - 1) d ≡ row = get_or_default rows (get_or numbers i 0 - 1) d row (numbered i inside).1 ∙ sym is in
        fails (subst (λ r. has (get_or numbers i 0) r) read (subst (λ n. has (get_or numbers n 0) (get_or rows (get_or numbers n 0 - 1) d)) same p)))
        (cases_lt k i)

  -- no row has it where none of the listed ones has, and only rows at the location can
  pub none_found : ((number : ℕ) (row : Row Value) → has number row → row.location ≡ location) → NoneSoFar has rows numbers (length numbers) → ¬ SomeRow has rows
  none_found there none (position, row, inside, stands, passes) =
      let at = subst (λ (r : Row Value). r.location ≡ location) (sym stands) (there (position + 1) row passes) in
      let (i, within, number) = subst (λ ns. StandsAmong ns (position + 1)) (sym listed) (each_listed rows location position row inside at) in
      let same : get_or numbers i 0 - 1 ≡ position = omega (arith, number) in
      none i row within (subst (λ n. has n (get_or rows (get_or numbers i 0 - 1) row)) (sym number)
      (subst (λ r. has (position + 1) r) (sym (ap (λ n. get_or rows n row) same ∙ stands)) passes))

-- ---- where nothing is asked of the number

module _ (P : Row Value → Type 0) (rows : List (Row Value)) where
  pub some_has : (number : ℕ) → IsFound (λ n row. P row × ⊤) rows (Some number) → Any P rows
  some_has number (position, row, inside, stands, has, is) = (position, row, inside, stands, has.0)

  pub none_has : IsFound (λ n row. P row × ⊤) rows None → ¬ Any P rows
  none_has none (position, row, inside, stands, has) = none (position, row, inside, stands, (has, tt))

  -- so told by a test of what was found
  pub has_where_some : (found : Option ℕ) → IsFound (λ n row. P row × ⊤) rows found → is_some found ≡ true → Any P rows
  has_where_some (Some number) is some = some_has number is
  has_where_some None is some = absurd cc

  pub has_not_where_none : (found : Option ℕ) → IsFound (λ n row. P row × ⊤) rows found → is_some found ≡ false → ¬ Any P rows
  has_not_where_none (Some number) is none = absurd cc
  has_not_where_none None is none = none_has is

  -- the two ways to say it are one
  pub nothing_asked : SomeRow (λ n row. P row × ⊤) rows ↔ Any P rows
  nothing_asked = (
    λ some. (some.0, some.1, some.2, some.3, some.4.0),
    λ any. (any.0, any.1, any.2, any.3, (any.4, tt)),
  )
