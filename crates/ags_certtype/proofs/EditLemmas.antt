-- What the edits of a certificate cite: the first cell outside its limit, the count of the other rows, and that the edited parts are
-- a certificate still.
use Rattle.std.proofs.Common.{◌≡◌, ◌≢◌, ℕ, zero, suc, ◌+◌, ◌-◌, ◌<◌, ◌≤◌, Bool, true, false, refl, sym, ap, subst, ◌∙◌, ⊎_elim, List, [], ◌∷◌, length, get_or, set, arith}
use Rattle.std.specs.Prelude.{◌==◌, Option, Some, None, IfSome, if◌then◌else◌}
use Rattle.std.specs.List.{remove}
use Rattle.std.proofs.lemmas.Bool.{eq-eqb, eqb-true, cases_lt}
use Rattle.std.proofs.lemmas.Bool.Decides.{nat_tests}
use Rattle.std.proofs.lemmas.List.{length-set, get_or_default, get_or-set_same, get_or-set_other, ext_get_or}
use Rattle.std.proofs.lemmas.List.Elements.{All-set}
use Rattle.std.proofs.lemmas.List.Sums.{sum_by-cons, sum_by-set, sum_by-remove}
use Rattle.ags_domain.specs.Domain.{IsWithin}
use Rattle.ags_domain.specs.Value.{value_meaning}
use Rattle.ags_domain.specs.declared.values.Value.{Value}
use Rattle.ags_row.specs.Cell.{cells_ascend}
use Rattle.ags_row.specs.Limit.{Limiting, SetsCell, AreWholeLimits, cell_limit}
use Rattle.ags_row.specs.declared.ats.At.{At}
use Rattle.ags_row.specs.declared.rows.Row.{Row}
use Rattle.ags_row.proofs.CellLemmas.{cells_above}
use Rattle.ags_certtype.specs.Cert.{Stated, IsCert, rows_at}
use Rattle.ags_certtype.specs.Edit.{AreCellsWithin, IsLeastOutside, IsUseWithin, others_at, with_limit}
use Rattle.ags_certtype.specs.Index.{numbers_from, numbers_at, locations_of}

-- ---- the first cell outside its limit

-- a cell stands before that of a position, or has no lesser address
before : (cells : List (At Value)) (i : ℕ) (e : At Value) → cells_ascend 0 cells ≡ true → i < length cells
    → (k : ℕ) (d : At Value) → k < length cells → (get_or cells k d).address < (get_or cells i e).address → k < i
before cells i e ascends inside k d here less =
    ⊎_elim (λ (earlier : k < i). earlier)
    (λ later. ⊎_elim
    (λ (after : i < k). let above = cells_above 0 cells ascends i k e d after here in omega arith)
    (λ over. let same : k ≡ i = omega arith in
    let one = ap (λ (n : ℕ). (get_or cells n d).address) same ∙ ap (λ (at : At Value). at.address) (get_or_default cells i d e inside) in
    omega arith)
    (cases_lt i k))
    (cases_lt k i)

pub least_outside : (limits : Limiting Value) (cells : List (At Value)) (i : ℕ) (cell : At Value) → cells_ascend 0 cells ≡ true → i < length cells
    → cell ≡ get_or cells i cell → ¬ IsWithin value_meaning cell.value (cell_limit limits cell.address)
    → ((k : ℕ) (d : At Value) → k < i → IsWithin value_meaning (get_or cells k d).value (cell_limit limits (get_or cells k d).address))
    → IsLeastOutside limits cells cell.address
least_outside limits cells i cell ascends inside is outside earlier =
    let here : (d : At Value) → get_or cells i d ≡ cell = λ d. get_or_default cells i d cell inside ∙ sym is in
    record {
      position = i;
      inside = inside;
      here = λ d. ap (λ (at : At Value). at.address) (here d);
      outside = λ d within. outside (subst (λ (at : At Value). IsWithin value_meaning at.value (cell_limit limits cell.address)) (here d) within);
      least = λ k d there less. earlier k d (before cells i cell ascends inside k d there
          (subst (λ (at : At Value). (get_or cells k d).address < at.address) is less));
    }

-- ---- how many rows stand at a location

one_more : (here : Bool) (numbers : List ℕ) (count first : ℕ) → length numbers ≡ count
    → length (if here then first ∷ numbers else numbers) ≡ (if here then 1 else 0) + count
one_more true numbers count first is = omega (arith, is)
one_more false numbers count first is = omega (arith, is)

counted_from : {D : Type 0} (first : ℕ) (rows : List (Row D)) (location : ℕ) → length (numbers_from first (locations_of rows) location) ≡ rows_at rows location
counted_from first [] location = refl
counted_from {D} first (row ∷ rows) location = one_more (row.location == location) (numbers_from (first + 1) (locations_of rows) location) (rows_at rows location)
    first (counted_from (first + 1) rows location) ∙ sym (sum_by-cons (λ (r : Row D). if r.location == location then 1 else 0) row rows)

pub counted : (rows : List (Row Value)) (location : ℕ) → length (numbers_at rows location) ≡ rows_at rows location
counted rows location = counted_from 1 rows location

abbrev one_at : ℕ → Row Value → ℕ
one_at location row = if row.location == location then 1 else 0

-- the row of a position and the others are all
all_but_one : (rows : List (Row Value)) (i location : ℕ) (d : Row Value) → i < length rows
    → rows_at (remove rows i) location + one_at location (get_or rows i d) ≡ rows_at rows location
all_but_one rows i location d inside = sum_by-remove (one_at location) rows i d inside

one_here : (location : ℕ) (row : Row Value) → row.location ≡ location → one_at location row ≡ 1
one_here location row is = rw (eq-eqb row.location location is) refl

none_here : (location : ℕ) (row : Row Value) → row.location ≢ location → one_at location row ≡ 0
none_here location row other = let apart : (row.location == location) ≡ false = grind (arith, nat_tests) in rw apart refl

-- with a row there the others are one fewer, and else all
pub others_here : (rows : List (Row Value)) (number location there : ℕ) (row : Row Value) → 1 ≤ number → number ≤ length rows
    → row ≡ get_or rows (number - 1) row → row.location ≡ location → there ≡ rows_at rows location → (1 ≤ there) × (there - 1 ≡ others_at rows number location)
others_here rows number location there row first last is here there_is =
    let whole = all_but_one rows (number - 1) location row (omega (arith, first, last)) in
    let one = one_here location row here in
    let same = ap (one_at location) is in
    (omega (arith, whole, one, same, there_is), omega (arith, whole, one, same, there_is))

pub others_elsewhere : (rows : List (Row Value)) (number location there : ℕ) (row : Row Value) → 1 ≤ number → number ≤ length rows
    → row ≡ get_or rows (number - 1) row → row.location ≢ location → there ≡ rows_at rows location → there ≡ others_at rows number location
others_elsewhere rows number location there row first last is other there_is =
    let whole = all_but_one rows (number - 1) location row (omega (arith, first, last)) in
    let none = none_here location row other in
    let same = ap (one_at location) is in
    omega (arith, whole, none, same, there_is)

-- ---- a row is replaced

-- few stand at each location then
few_still : (rows : List (Row Value)) (i : ℕ) (new : Row Value) → i < length rows → rows_at (remove rows i) new.location < 512
    → ((location : ℕ) → rows_at rows location ≤ 512) → (location : ℕ) (here : Bool) → (new.location == location) ≡ here → rows_at (set rows i new) location ≤ 512
few_still rows i new inside room few location true is =
    let same = eqb-true new.location location is in
    let changed = sum_by-set (one_at location) rows i new new inside in
    let whole = all_but_one rows i location new inside in
    let one = one_here location new same in
    let left : rows_at (remove rows i) location < 512 = subst (λ (l : ℕ). rows_at (remove rows i) l < 512) same room in
    omega (arith, changed, whole, one, left)
few_still rows i new inside room few location false is =
    let changed = sum_by-set (one_at location) rows i new new inside in
    let none : one_at location new ≡ 0 = rw is refl in
    let most = few location in
    omega (arith, changed, none, most)

pub row_put : (stated : Stated) (i : ℕ) (new : Row Value) → IsCert stated → i < length stated.rows → AreCellsWithin stated.limits new.at
    → rows_at (remove stated.rows i) new.location < 512 → IsCert (record stated { rows = set stated.rows i new })
row_put stated i new is inside within room = record {
  limits = is.limits;
  entries = is.entries;
  certificate = record {
    start = is.certificate.start;
    init = is.certificate.init;
    cells = All-set (λ (row : Row Value). AreCellsWithin stated.limits row.at) stated.rows i new within is.certificate.cells;
    some_row = let some = is.certificate.some_row in let long = length-set stated.rows i new in omega (arith, some, long);
  };
  few_rows = let few = is.few_rows in let long = length-set stated.rows i new in omega (arith, few, long);
  few_at_one = λ location. few_still stated.rows i new inside room is.few_at_one location (new.location == location) refl;
}

-- the same of what is known of the certificate by another name
pub row_put_in : (stated given : Stated) (i : ℕ) (new : Row Value) → stated ≡ given → IsCert stated → i < length given.rows → AreCellsWithin given.limits new.at
    → rows_at (remove given.rows i) new.location < 512 → IsCert (record stated { rows = set stated.rows i new })
row_put_in stated given i new same is =
    subst (λ (g : Stated). i < length g.rows → AreCellsWithin g.limits new.at → rows_at (remove g.rows i) new.location < 512 → IsCert (record stated { rows = set stated.rows i new }))
    same (row_put stated i new is)

-- rows stand where they stood where the new one stands at the location of the old one
pub locations_kept : (rows : List (Row Value)) (i : ℕ) (new : Row Value) (d : Row Value) → i < length rows → (get_or rows i d).location ≡ new.location
    → locations_of (set rows i new) ≡ locations_of rows
locations_kept [] i new d inside same = refl
locations_kept (row ∷ rows) zero new d inside same = ap (λ (n : ℕ). n ∷ locations_of rows) (sym same)
locations_kept (row ∷ rows) (suc i) new d inside same = ap (λ (ns : List ℕ). row.location ∷ ns) (locations_kept rows i new d (omega (arith, inside)) same)

-- ---- a limit is replaced

-- the cells with one of them set are the list with the entry set
module _ (old new : Limiting Value) (address : ℕ) (value : Value) (whole : AreWholeLimits value_meaning old) (whole_new : AreWholeLimits value_meaning new)
    (inside : address < 2048) (sets : SetsCell old new address value) where
  entry_is : (i : ℕ) (here : Bool) → (i == address) ≡ here → get_or new.cells i new.every ≡ get_or (set old.cells address value) i new.every
  unfolding cell_limit
  entry_is i true is =
      let same = eqb-true i address is in
      ap (λ (n : ℕ). get_or new.cells n new.every) same ∙ (sets.cells.set ∙ sym (ap (λ (n : ℕ). get_or (set old.cells address value) n new.every) same
      ∙ get_or-set_same old.cells address value new.every (omega (arith, inside, whole.tables.cells))))
  entry_is i false is =
      let other : i ≢ address = grind (arith, nat_tests) in
      sets.cells.others i other ∙ (ap (λ (every : Value). get_or old.cells i every) (sym (ap (λ (limits : Limiting Value). limits.every) sets.rest))
      ∙ sym (get_or-set_other old.cells address i value new.every other))

  cells_set : new.cells ≡ set old.cells address value
  cells_set = ext_get_or new.every new.cells (set old.cells address value)
      (whole_new.tables.cells ∙ sym (length-set old.cells address value ∙ whole.tables.cells))
      (λ i below. entry_is i (i == address) refl)

  pub limits_set : new ≡ record old { cells = set old.cells address value }
  limits_set = sets.rest ∙ ap (λ (cells : List Value). record old { cells = cells }) cells_set

-- what was within the old limits, and of the cell within the new one, is within the new limits
within_still : (old new : Limiting Value) (address : ℕ) (value : Value) → SetsCell old new address value → (held : Value) (at : ℕ) (here : Bool) → (at == address) ≡ here
    → (at ≡ address → IsWithin value_meaning held value) → IsWithin value_meaning held (cell_limit old at) → IsWithin value_meaning held (cell_limit new at)
within_still old new address value sets held at true is own within =
    let same = eqb-true at address is in
    subst (λ (limit : Value). IsWithin value_meaning held limit) (sym (ap (λ (n : ℕ). cell_limit new n) same ∙ sets.cells.set)) (own same)
within_still old new address value sets held at false is own within =
    let other : at ≢ address = grind (arith, nat_tests) in
    subst (λ (limit : Value). IsWithin value_meaning held limit) (sym (sets.cells.others at other)) within

first_still : (old new : Limiting Value) (address : ℕ) (value : Value) → SetsCell old new address value → (first : Option Value) (at : ℕ)
    → (at ≡ address → IfSome first (λ held. IsWithin value_meaning held value)) → IfSome first (λ held. IsWithin value_meaning held (cell_limit old at))
    → IfSome first (λ held. IsWithin value_meaning held (cell_limit new at))
first_still old new address value sets None at own within = within
first_still old new address value sets (Some held) at own within = within_still old new address value sets held at (at == address) refl own within

pub limit_put : (stated : Stated) (limits : Limiting Value) (address : ℕ) (value : Value) → IsCert stated → AreWholeLimits value_meaning limits
    → SetsCell stated.limits limits address value → IsUseWithin stated address value → IsCert (record stated { limits = limits })
limit_put stated limits address value is whole sets used = record {
  limits = whole;
  entries = is.entries;
  certificate = record {
    start = is.certificate.start;
    init = λ at below. first_still stated.limits limits address value sets (get_or stated.init at None) at
        (λ same. subst (λ (n : ℕ). IfSome (get_or stated.init n None) (λ held. IsWithin value_meaning held value)) (sym same) used.start)
        (is.certificate.init at below);
    cells = λ i d inside k e there.
        let cell = get_or (get_or stated.rows i d).at k e in
        within_still stated.limits limits address value sets cell.value cell.address (cell.address == address) refl
        (used.rows i d inside k e there) (is.certificate.cells i d inside k e there);
    some_row = is.certificate.some_row;
  };
  few_rows = is.few_rows;
  few_at_one = is.few_at_one;
}

-- the same of what is known of the certificate by another name
pub limit_put_in : (stated given : Stated) (limits : Limiting Value) (address : ℕ) (value : Value) → stated ≡ given → IsCert stated → AreWholeLimits value_meaning limits
    → SetsCell stated.limits limits address value → IsUseWithin given address value → IsCert (record stated { limits = limits })
limit_put_in stated given limits address value same is whole sets used =
    limit_put stated limits address value is whole sets (subst (λ (g : Stated). IsUseWithin g address value) (sym same) used)

pub limit_put_as : (stated given : Stated) (limits : Limiting Value) (address : ℕ) (value : Value) → stated ≡ given → IsCert stated → AreWholeLimits value_meaning limits
    → address < 2048 → SetsCell stated.limits limits address value → record stated { limits = limits } ≡ with_limit given address value
limit_put_as stated given limits address value same is whole inside sets =
    ap (λ (l : Limiting Value). record stated { limits = l }) (limits_set stated.limits limits address value is.limits whole inside sets)
    ∙ ap (λ (s : Stated). with_limit s address value) same
