-- No statement of a certificate is at fault after those before it: what is kept along the kinds that stand by address.
use Rattle.std.proofs.Common.{◌≡◌, ℕ, zero, suc, ◌+◌, ◌<◌, ◌≤◌, ◌⊎◌, Bool, true, false, not, ◌==◌, ◌||◌, List, [], ◌∷◌, ◌++◌, map, Option, Some, None, refl, ap, ◌∙◌, inl, inr, arith}
use Rattle.std.specs.Prelude.{nat_le}
use Rattle.std.proofs.lemmas.Bool.Decides.{nat_tests}
use Rattle.std.specs.List.{list_any, filter_map, range_with_len, cons_option}
use Rattle.std.proofs.lemmas.Bool.{cases_Bool, eqb-true, ne_eqb}
use Rattle.ags_text.specs.Fault.{first_fault, first_fault-nil, first_fault-faultless}
use Rattle.ags_domain.specs.Domain.{IsWithin}
use Rattle.ags_domain.specs.Value.{value_held, value_meaning}
use Rattle.ags_domain.specs.declared.values.Value.{Value}
use Rattle.ags_ports.specs.Port.{Registers}
use Rattle.ags_row.specs.Limit.{cell_limit}
use Rattle.ags_certtype.specs.Cert.{Stated}
use Rattle.ags_certtext.specs.Fault.{fault_in, faults, reading_fault, is_outside}
use Rattle.ags_frame.specs.Fault.{end_fault, version_of}
use Rattle.ags_frame.specs.Reading.{Stated as StatedBy, Ended, statement_of}
use Rattle.ags_certtext.specs.Reading.{Reading}
use Rattle.ags_certtext.specs.declared.kinds.Kind.{Kind}
use Rattle.ags_certtext.specs.declared.kinds.Kind.TheVariants as kind
use Rattle.ags_certtext.specs.Kind.{follows, is_kind, kind_of, kinds_before, last_kind}
use Rattle.ags_certtext.specs.Statement.{entry_in, entries, value_at, row_line, all_below, is_within}
use Rattle.ags_certtext.specs.declared.statements.Statement.{Statement}
use Rattle.ags_certtext.specs.declared.statements.Statement.TheVariants.{Start, Entry as EntryOf, May, Row as RowOf, Linked, End}
use Rattle.ags_certtext.specs.declared.kinds.Table.TheVariants.{Cell}
use Rattle.ags_certsend.specs.CertText.{entry_of, ascending}

-- ---- statements one after the other

-- those before, nearest first, once some more stand after them
unfoldable pub onto : List Statement → List Statement → List Statement
onto before [] = before
onto before (statement ∷ statements) = onto (statement ∷ before) statements

-- none is at fault after those before it
unfoldable pub NoFault : Registers → (version : ℕ) → List Statement → List Statement → Type 0
NoFault ports version before [] = Unit {0}
NoFault ports version before (statement ∷ statements) = (fault_in ports version before statement ≡ None) × NoFault ports version (statement ∷ before) statements

pub no_fault-append : (ports : Registers) (version : ℕ) (before xs ys : List Statement) → NoFault ports version before xs → NoFault ports version (onto before xs) ys → NoFault ports version before (xs ++ ys)
unfolding NoFault onto
no_fault-append ports version before [] ys first second = second
no_fault-append ports version before (x ∷ xs) ys first second = (first.0, no_fault-append ports version (x ∷ before) xs ys first.1 second)

pub onto-append : (before xs ys : List Statement) → onto before (xs ++ ys) ≡ onto (onto before xs) ys
unfolding onto
onto-append before [] ys = refl
onto-append before (x ∷ xs) ys = onto-append (x ∷ before) xs ys

-- their readings have no fault, and neither has the end of the text
pub readings_faultless : (ports : Registers) (version : ℕ) (read : List Reading) (before statements : List Statement) → version_of read ≡ version → filter_map statement_of read ≡ before
    → NoFault ports version before statements → end_fault (faults ports) (onto before statements) ≡ None
    → first_fault (reading_fault ports) read (map StatedBy statements ++ Ended ∷ []) ≡ None
unfolding NoFault onto
readings_faultless ports version read before [] opened same none last =
    first_fault-faultless (reading_fault ports) read Ended [] (rw same last) ∙ first_fault-nil (reading_fault ports) (Ended ∷ read)
readings_faultless ports version read before (statement ∷ statements) opened same none last =
    first_fault-faultless (reading_fault ports) read (StatedBy statement) (map StatedBy statements ++ Ended ∷ []) (rw (same, opened) none.0)
    ∙ readings_faultless ports version (StatedBy statement ∷ read) (statement ∷ before) statements opened (ap (λ (rest : List Statement). statement ∷ rest) same) none.1 last

-- ---- what stands before a kind's address

-- the address of a statement
unfoldable pub stand : Statement → ℕ
stand (Start location) = 0
stand (EntryOf table entry) = entry.address
stand (May location) = location
stand (RowOf row) = 0
stand (Linked link) = 0
stand End = 0

-- how many kinds there are up to that of a statement
abbrev pub kind_number : Statement → ℕ
kind_number statement = kinds_before (kind_of statement) + 1

-- and up to that of the last statement
abbrev pub last_number : List Statement → ℕ
last_number [] = 0
last_number (statement ∷ before) = kind_number statement

not_end : (statement : Statement) → kind_number statement ≤ 7 → is_kind kind.End (kind_of statement) ≡ false
not_end End few = absurd (omega (arith, few))
not_end (EntryOf Cell entry) few = refl
not_end _ few = refl

-- after kinds that are no later a kind stands in order
pub in_order : (before : List Statement) (its : Kind) (number : ℕ) → kinds_before its + 1 ≡ number → last_number before ≤ number → last_number before ≤ 7
    → follows (last_kind before) its ≡ true
in_order [] its number is low few = refl
in_order (statement ∷ before) its number is low few =
    rw (no_later (kinds_before (kind_of statement)) (kinds_before its) (omega (arith, is, low)), not_end statement few) refl
  where
    no_later : (one other : ℕ) → one ≤ other → nat_le one other ≡ true
    no_later one other is = grind (arith, nat_tests)

-- after a row its number is the last
pub row_number : (before : List Statement) → last_kind before ≡ Some kind.Row → last_number before ≡ 7
row_number [] is = absurd cc
row_number (statement ∷ before) is =
    let same : kind_of statement ≡ kind.Row = cc in
    ap (λ (its : Kind). kinds_before its + 1) same

IsLower : ℕ → ℕ → Statement → Type 0
IsLower kind address statement = (kind_number statement < kind) ⊎ ((kind_number statement ≡ kind) × (stand statement < address))

-- each statement is of an earlier kind, or of this one and of a lower address
pub AreLower : ℕ → ℕ → List Statement → Type 0
AreLower kind address [] = Unit {0}
AreLower kind address (statement ∷ before) = IsLower kind address statement × AreLower kind address before

pub lower_none : (kind address : ℕ) → AreLower kind address []
unfolding AreLower
lower_none kind address = tt

pub lower_more : (kind address : ℕ) (statement : Statement) (before : List Statement) → kind_number statement ≡ kind → stand statement ≡ address
    → AreLower kind address before → AreLower kind (address + 1) (statement ∷ before)
unfolding AreLower IsLower
lower_more kind address statement before kind_is place lower = (inr (kind_is, omega (arith, place)), rest before lower)
  where
    rest : (others : List Statement) → AreLower kind address others → AreLower kind (address + 1) others
    rest [] all = tt
    rest (other ∷ others) all = (elim all.0 [ inl less ↦ inl less | inr same ↦ inr (same.0, let below = same.1 in omega (arith, below)) ], rest others all.1)

pub lower_step : (kind address : ℕ) (before : List Statement) → AreLower kind address before → AreLower kind (address + 1) before
unfolding AreLower IsLower
lower_step kind address [] all = tt
lower_step kind address (other ∷ others) all = (elim all.0 [ inl less ↦ inl less | inr same ↦ inr (same.0, let below = same.1 in omega (arith, below)) ], lower_step kind address others all.1)

pub lower_kind : (kind address : ℕ) (before : List Statement) → AreLower kind address before → AreLower (kind + 1) 0 before
unfolding AreLower IsLower
lower_kind kind address [] all = tt
lower_kind kind address (other ∷ others) all =
    (inl (elim all.0 [ inl less ↦ omega (arith, less) | inr same ↦ let is = same.0 in omega (arith, is) ]), lower_kind kind address others all.1)

pub lower_last : (kind address : ℕ) (before : List Statement) → AreLower kind address before → last_number before ≤ kind
unfolding AreLower IsLower
lower_last kind address [] all = omega arith
lower_last kind address (statement ∷ before) all = elim all.0 [ inl less ↦ omega (arith, less) | inr same ↦ let is = same.0 in omega (arith, is) ]

pub start_stands : (location : ℕ) → stand (Start location) ≡ 0
unfolding stand
start_stands location = refl

-- before the rows there is none
no_line : (statement : Statement) → IsLower 7 0 statement → row_line statement ≡ None
unfolding IsLower
no_line (RowOf row) lower = absurd (elim lower [ inl less ↦ omega (arith, less) | inr same ↦ let below = same.1 in omega (arith, below) ])
no_line _ lower = refl

pub no_lines : (before : List Statement) → AreLower 7 0 before → filter_map row_line before ≡ []
unfolding AreLower
no_lines [] lower = refl
no_lines (statement ∷ before) lower = rw (no_line statement lower.0, no_lines before lower.1) refl

-- what is chosen of the statements of one kind has their addresses
unfoldable pub Chooses : {Y : Type 0} → (Statement → Option Y) → (Y → ℕ) → ℕ → Type 0
Chooses {Y} chosen key kind = (statement : Statement) (y : Y) → chosen statement ≡ Some y → (kind_number statement ≡ kind) × (stand statement ≡ key y)

pub apart : (place address : ℕ) → place < address → (place == address) ≡ false
apart place address less = ne_eqb place address (λ same. omega (arith, same))

fresh_found : {Y : Type 0} (chosen : Statement → Option Y) (key : Y → ℕ) (kind address : ℕ) → Chooses chosen key kind
    → (statement : Statement) (found : Option Y) (rest : List Y) → chosen statement ≡ found → IsLower kind address statement
    → list_any (λ (y : Y). key y == address) rest ≡ false → list_any (λ (y : Y). key y == address) (cons_option found rest) ≡ false
unfolding IsLower Chooses
fresh_found chosen key kind address chooses statement None rest is lower none = none
fresh_found chosen key kind address chooses statement (Some y) rest is lower none =
    let chosen_is = chooses statement y is in
    let kind_is = chosen_is.0 in
    let place_is = chosen_is.1 in
    elim lower [
      | inl less ↦ absurd (omega (arith, less, kind_is))
      | inr same ↦ let below = same.1 in rw (apart (key y) address (omega (arith, below, place_is)), none) refl
    ]

pub fresh : {Y : Type 0} (chosen : Statement → Option Y) (key : Y → ℕ) (kind address : ℕ) → Chooses chosen key kind
    → (before : List Statement) → AreLower kind address before → list_any (λ (y : Y). key y == address) (filter_map chosen before) ≡ false
unfolding AreLower
fresh chosen key kind address chooses [] lower = refl
fresh chosen key kind address chooses (statement ∷ before) lower =
    fresh_found chosen key kind address chooses statement (chosen statement) (filter_map chosen before) refl lower.0 (fresh chosen key kind address chooses before lower.1)

-- ---- what is stated of cells

-- of a cell nothing is stated, or its limit
pub AreCellsOf : Stated → List Statement → Type 0
AreCellsOf cert before = (address : ℕ) → (value_at (entries Cell before) address ≡ None) ⊎ (value_at (entries Cell before) address ≡ Some (cell_limit cert.limits address))

pub cells_none : (cert : Stated) → AreCellsOf cert []
unfolding AreCellsOf
cells_none cert = λ address. inl refl

pub cells_other : (cert : Stated) (statement : Statement) (before : List Statement) → entry_in Cell statement ≡ None → AreCellsOf cert before → AreCellsOf cert (statement ∷ before)
unfolding AreCellsOf
cells_other cert statement before none are = λ address. rw none (are address)

pub cells_more : (cert : Stated) (cell : ℕ) (before : List Statement) → AreCellsOf cert before → AreCellsOf cert (EntryOf Cell (entry_of cell (cell_limit cert.limits cell)) ∷ before)
unfolding AreCellsOf
cells_more cert cell before are = λ address.
    elim (cases_Bool (cell == address)) [
      | inl same ↦ inr (rw (same, eqb-true cell address same) refl)
      | inr other ↦ rw other (are address)
    ]

all_below_from : (count : ℕ) (test : ℕ → Bool) → ((word : ℕ) → word < count → test word ≡ true) → all_below count test ≡ true
unfolding all_below
all_below_from zero test each = refl
all_below_from (suc count) test each = rw (each count (omega arith), all_below_from count test (λ word less. each word (omega (arith, less)))) refl

implied : (first second : Bool) → (first ≡ true → second ≡ true) → (not first || second) ≡ true
implied true second gives = gives refl
implied false second gives = refl

within_test : (inner outer : Value) → IsWithin value_meaning inner outer → is_within inner outer ≡ true
unfolding is_within
within_test inner outer within = all_below_from 262144 (λ word. not (value_held inner word) || value_held outer word) (λ word below. implied (value_held inner word) (value_held outer word) (within word below))

pub not_outside : (cert : Stated) (before : List Statement) (address : ℕ) (value : Value) → AreCellsOf cert before → IsWithin value_meaning value (cell_limit cert.limits address)
    → is_outside (Some value) (value_at (entries Cell before) address) ≡ false
unfolding AreCellsOf
not_outside cert before address value are within =
    elim (are address) [
      | inl none ↦ rw none refl
      | inr is ↦ rw (is, within_test value (cell_limit cert.limits address) within) refl
    ]

-- ---- a kind that stands by address

pub record IsPassed (ports : Registers) (version : ℕ) (cert : Stated) (kind address : ℕ) (before statements : List Statement) : Type 0 where
  pub none : NoFault ports version before statements
  pub lower : AreLower kind address (onto before statements)
  pub cells : AreCellsOf cert (onto before statements)

-- what a statement of the kind keeps
pub record IsKept (ports : Registers) (version : ℕ) (cert : Stated) (kind address : ℕ) (before : List Statement) (statement : Statement) : Type 0 where
  pub none : fault_in ports version before statement ≡ None
  pub kind_is : kind_number statement ≡ kind
  pub place_is : stand statement ≡ address
  pub cells : AreCellsOf cert (statement ∷ before)

unfoldable pub Keeps : Registers → (version : ℕ) → Stated → ℕ → ℕ → (ℕ → Option Statement) → Type 0
Keeps ports version cert kind most stated = (before : List Statement) (address : ℕ) (statement : Statement) → address < most → AreLower kind address before → AreCellsOf cert before
    → stated address ≡ Some statement → IsKept ports version cert kind address before statement

passed_found : (ports : Registers) (version : ℕ) (cert : Stated) (kind most : ℕ) (stated : ℕ → Option Statement) → Keeps ports version cert kind most stated
    → (before : List Statement) (address end : ℕ) → address < most → AreLower kind address before → AreCellsOf cert before
    → (found : Option Statement) → stated address ≡ found → (rest : List Statement)
    → ((next : List Statement) → AreLower kind (address + 1) next → AreCellsOf cert next → IsPassed ports version cert kind end next rest)
    → IsPassed ports version cert kind end before (cons_option found rest)
unfolding NoFault onto Keeps
passed_found ports version cert kind most stated keeps before address end below lower cells None is rest later = later before (lower_step kind address before lower) cells
passed_found ports version cert kind most stated keeps before address end below lower cells (Some statement) is rest later =
    let kept = keeps before address statement below lower cells is in
    let passed = later (statement ∷ before) (lower_more kind address statement before kept.kind_is kept.place_is lower) kept.cells in
    record { none = (kept.none, passed.none); lower = passed.lower; cells = passed.cells }

range_passed : (ports : Registers) (version : ℕ) (cert : Stated) (kind most : ℕ) (stated : ℕ → Option Statement) → Keeps ports version cert kind most stated
    → (from count : ℕ) → from + count ≤ most → (before : List Statement) → AreLower kind from before → AreCellsOf cert before
    → IsPassed ports version cert kind (from + count) before (filter_map stated (range_with_len from count))
unfolding NoFault onto
range_passed ports version cert kind most stated keeps from zero short before lower cells =
    let end : from + zero ≡ from = omega arith in
    rw end (record { none = tt; lower = lower; cells = cells })
range_passed ports version cert kind most stated keeps from (suc count) short before lower cells =
    let end : from + suc count ≡ from + 1 + count = omega arith in
    rw end (passed_found ports version cert kind most stated keeps before from (from + 1 + count) (omega (arith, short)) lower cells (stated from) refl (filter_map stated (range_with_len (from + 1) count))
    (λ next later_lower later_cells. range_passed ports version cert kind most stated keeps (from + 1) count (omega (arith, short)) next later_lower later_cells))

pub ascending_passed : (ports : Registers) (version : ℕ) (cert : Stated) (kind most : ℕ) (stated : ℕ → Option Statement) → Keeps ports version cert kind most stated
    → (before : List Statement) → AreLower kind 0 before → AreCellsOf cert before → IsPassed ports version cert kind most before (ascending stated most)
unfolding ascending
ascending_passed ports version cert kind most stated keeps before lower cells =
    let end : 0 + most ≡ most = omega arith in
    rw end at (range_passed ports version cert kind most stated keeps 0 most (omega arith) before lower cells)
