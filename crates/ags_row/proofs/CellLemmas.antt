-- The cells of a row are erasable, each stands above the one before it, and one is found by halving. The crates above cite:
--     cells_below    each of cells that ascend is erasable
use Rattle.std.proofs.Common.{◌≡◌, ◌≢◌, ℕ, zero, suc, ◌+◌, ◌<◌, ◌≤◌, Bool, true, false, refl, sym, ap, ◌∙◌, ⊎_elim, List, [], ◌∷◌, length, get_or, arith}
use Rattle.std.specs.Prelude.{◌&&◌, ◌==◌, nat_le, nat_lt, Option, Some, None, if◌then◌else◌}
use Rattle.std.proofs.lemmas.Bool.{eq-eqb, cases_lt}
use Rattle.std.proofs.lemmas.Bool.Decides.{nat_tests}
use Rattle.std.proofs.lemmas.List.{get_or_default}
use Rattle.ags_domain.specs.ListLaws.{and_left, and_right}
use Rattle.ags_row.specs.Cell.{cells_ascend, value_among}
use Rattle.ags_row.specs.declared.ats.At.{At}

-- the parts of what it is to ascend
module _ {D : Type 0} (from : ℕ) (cell : At D) (cells : List (At D)) (ascends : cells_ascend from (cell ∷ cells) ≡ true) where
  abbrev later : Bool
  later = cells_ascend (cell.address + 1) cells

  first_from : from ≤ cell.address
  first_from = let first = and_left (nat_le from cell.address) (nat_lt cell.address 2048 && later) ascends in grind (arith, nat_tests)

  below_and_later : (nat_lt cell.address 2048 && later) ≡ true
  below_and_later = and_right (nat_le from cell.address) (nat_lt cell.address 2048 && later) ascends

  first_below : cell.address < 2048
  first_below = let below = and_left (nat_lt cell.address 2048) later below_and_later in grind (arith, nat_tests)

  rest_ascends : later ≡ true
  rest_ascends = and_right (nat_lt cell.address 2048) later below_and_later

pub cells_below : {D : Type 0} (from : ℕ) (cells : List (At D)) → cells_ascend from cells ≡ true
    → (k : ℕ) (d : At D) → k < length cells → (get_or cells k d).address < 2048
cells_below from [] ascends k d inside = absurd (omega arith)
cells_below from (cell ∷ cells) ascends zero d inside = first_below from cell cells ascends
cells_below from (cell ∷ cells) ascends (suc k) d inside = cells_below (cell.address + 1) cells (rest_ascends from cell cells ascends) k d (omega arith)

cells_from : {D : Type 0} (from : ℕ) (cells : List (At D)) → cells_ascend from cells ≡ true
    → (k : ℕ) (d : At D) → k < length cells → from ≤ (get_or cells k d).address
cells_from from [] ascends k d inside = absurd (omega arith)
cells_from from (cell ∷ cells) ascends zero d inside = first_from from cell cells ascends
cells_from from (cell ∷ cells) ascends (suc k) d inside =
    let first = first_from from cell cells ascends in
    let later = cells_from (cell.address + 1) cells (rest_ascends from cell cells ascends) k d (omega arith) in
    omega arith

-- a later cell stands above an earlier one
pub cells_above : {D : Type 0} (from : ℕ) (cells : List (At D)) → cells_ascend from cells ≡ true
    → (j k : ℕ) (d e : At D) → j < k → k < length cells → (get_or cells j d).address < (get_or cells k e).address
cells_above from [] ascends j k d e less inside = absurd (omega arith)
cells_above from (cell ∷ cells) ascends j zero d e less inside = absurd (omega arith)
cells_above from (cell ∷ cells) ascends zero (suc k) d e less inside =
    let later = cells_from (cell.address + 1) cells (rest_ascends from cell cells ascends) k e (omega arith) in
    omega arith
cells_above from (cell ∷ cells) ascends (suc j) (suc k) d e less inside =
    cells_above (cell.address + 1) cells (rest_ascends from cell cells ascends) j k d e (omega arith) (omega arith)

chosen : {D : Type 0} (b : Bool) (value : D) (rest : Option D) → b ≡ false → (if b then Some value else rest) ≡ rest
chosen b value rest is = rw is refl

taken : {D : Type 0} (b : Bool) (value : D) (rest : Option D) → b ≡ true → (if b then Some value else rest) ≡ Some value
taken b value rest is = rw is refl

apart : (a b : ℕ) → a ≢ b → (a == b) ≡ false
apart a b other = grind (arith, nat_tests)

-- the cell at the address is what is found
pub found_at : {D : Type 0} (from : ℕ) (cells : List (At D)) (address : ℕ) → cells_ascend from cells ≡ true
    → (k : ℕ) (d : At D) → k < length cells → (get_or cells k d).address ≡ address → value_among cells address ≡ Some ((get_or cells k d).value)
found_at from [] address ascends k d inside here = absurd (omega arith)
found_at from (cell ∷ cells) address ascends zero d inside here =
    taken (cell.address == address) cell.value (value_among cells address) (eq-eqb cell.address address here)
found_at from (cell ∷ cells) address ascends (suc k) d inside here =
    let later = cells_from (cell.address + 1) cells (rest_ascends from cell cells ascends) k d (omega arith) in
    chosen (cell.address == address) cell.value (value_among cells address) (apart cell.address address (λ same. omega arith))
    ∙ found_at (cell.address + 1) cells address (rest_ascends from cell cells ascends) k d (omega arith) here

-- none is found where each is at another address
pub none_at : {D : Type 0} (cells : List (At D)) (address : ℕ)
    → ((k : ℕ) (d : At D) → k < length cells → (get_or cells k d).address ≢ address) → value_among cells address ≡ None
none_at [] address other = refl
none_at (cell ∷ cells) address other =
    chosen (cell.address == address) cell.value (value_among cells address) (apart cell.address address (other zero cell (omega arith)))
    ∙ none_at cells address (λ k d inside. other (suc k) d (omega arith))

-- ---- the steps of halving, where the cell in the middle was read

module _ {D : Type 0} (cells : List (At D)) (ascends : cells_ascend 0 cells ≡ true) (address middle : ℕ) (cell : At D)
    (inside : middle < length cells) (is : cell ≡ get_or cells middle cell) where
  pub read_found : cell.address ≡ address → Some cell.value ≡ value_among cells address
  read_found here = sym (found_at 0 cells address ascends middle cell inside (sym (ap (λ (at : At D). at.address) is) ∙ here)
      ∙ ap (λ (at : At D). Some at.value) (sym is))

  at_middle : (k : ℕ) (d : At D) → k ≡ middle → k < length cells → cell.address ≡ (get_or cells k d).address
  at_middle k d here within = ap (λ (at : At D). at.address)
      (is ∙ ap (λ (n : ℕ). get_or cells n cell) (sym here) ∙ get_or_default cells k cell d within)

  -- the cells up to the middle stand no higher than it
  up_to_middle : (k : ℕ) (d : At D) → k < middle + 1 → (get_or cells k d).address ≤ cell.address
  up_to_middle k d near = ⊎_elim
      (λ less. omega (arith, cells_above 0 cells ascends k middle d cell less inside, at_middle middle cell refl inside))
      (λ more. omega (arith, at_middle k d (omega arith) (omega arith)))
      (cases_lt k middle)

  -- the cells from the middle on stand no lower than it
  from_middle : (k : ℕ) (d : At D) → middle ≤ k → k < length cells → cell.address ≤ (get_or cells k d).address
  from_middle k d far within = ⊎_elim
      (λ less. omega (arith, cells_above 0 cells ascends middle k cell d less within, at_middle middle cell refl inside))
      (λ more. omega (arith, at_middle k d (omega arith) within))
      (cases_lt middle k)

  pub all_below : cell.address < address → (k : ℕ) (d : At D) → k < middle + 1 → k < length cells → (get_or cells k d).address < address
  all_below less k d near within = let at_most = up_to_middle k d near in omega arith

  pub all_above : address < cell.address → (k : ℕ) (d : At D) → middle ≤ k → k < length cells → address < (get_or cells k d).address
  all_above less k d far within = let at_least = from_middle k d far within in omega arith
