-- What a text of times means, whatever it is. Behind the laws of `laws.rt` stand
--     each_text_means   it has bounds for so many rows, or it has a first fault
--     one_budget_of     it has one list of bounds
--     one_fault_of      it has one first fault
--     never_both        and never both
--     cycle_kept        and each bound is at most the cycle
use Rattle.std.proofs.Common.{◌≡◌, ◌≢◌, ℕ, zero, suc, ◌+◌, ◌-◌, ◌<◌, ◌≤◌, ◌⊎◌, Bool, true, false, refl, sym, ◌∙◌, subst, List, [], ◌∷◌, length, reverse, get_or, set, Option, Some, None, inl, inr, arith, nat_lt}
use Rattle.std.specs.Prelude.{All, IfSome, ◌==◌, ◌||◌}
use Rattle.std.specs.List.{list_any, filter_map}
use Rattle.std.specs.Option.{is_some}
use Rattle.std.proofs.lemmas.Bool.Decides.{nat_tests}
use Rattle.std.proofs.lemmas.Grind.{get_or-set_at}
use Rattle.std.proofs.lemmas.List.{get_or-set_other, length-set}
use Rattle.std.proofs.lemmas.List.Elements.{All-nil, All-cons, All-head, All-tail, All-set}
use Rattle.ags_frame.specs.Fault.{has_ended}
use Rattle.ags_frame.specs.Reading.{Reading, IsFirstReading, IsReading}
use Rattle.ags_frame.proofs.ReadingLaws.{some_first_reading, one_first_reading, some_reading, one_reading}
use Rattle.ags_statements.specs.Text.{IsTextOf}
use Rattle.ags_statements.proofs.MeaningLemmas as statements
use Rattle.ags_statements.proofs.KeptLemmas.{no_fault, text_kept}
use Rattle.ags_statements.proofs.ReadLemmas.{EachIsRead}
use Rattle.ags_times.specs.Budget.{IsTime, bound_of, bounds_where}
use Rattle.ags_times.specs.Gathering.{Gathered, IsAmong}
use Rattle.ags_times.specs.Spelling.{States}
use Rattle.ags_times.specs.Text.{AreBounds, IsBudgetOf, IsFaultyBudget, faults, has_row, is_end, line_fault, row_bound, times_name}
use Rattle.ags_times.specs.declared.budget_errors.BudgetKind.{BudgetKind}
use Rattle.ags_times.specs.declared.budget_errors.BudgetKind.TheVariants.{BadLine, Twice, NoRow, TimeRange}
use Rattle.ags_times.specs.declared.lines.RowBound.{RowBound}
use Rattle.ags_times.specs.declared.lines.TimesLine.{TimesLine}
use Rattle.ags_times.specs.declared.lines.TimesLine.TheVariants.{Bound, End}
use Rattle.ags_times.proofs.BoundLemmas.{all_stated, never_above, one_budget, with_end}
use Rattle.ags_times.proofs.LineLemmas.{idle_states_nothing, name_field, one_statement, some_statement}

-- ---- rows of which nothing is stated

abbrev unstated : ℕ → List (Option ℕ)
unstated zero = []
unstated (suc rows) = None ∷ unstated rows

unstated_count : (rows : ℕ) → length (unstated rows) ≡ rows
unstated_count zero = refl
unstated_count (suc rows) = let later = unstated_count rows in omega (arith, later)

unstated_there : (rows position : ℕ) → is_some (get_or (unstated rows) position None) ≡ false
unstated_there zero position = refl
unstated_there (suc rows) zero = refl
unstated_there (suc rows) (suc position) = unstated_there rows position

unstated_times : (rows : ℕ) → All (λ (bound : Option ℕ). IfSome bound IsTime) (unstated rows)
unstated_times zero = All-nil (λ (bound : Option ℕ). IfSome bound IsTime)
unstated_times (suc rows) = All-cons (λ (bound : Option ℕ). IfSome bound IsTime) None (unstated rows) tt (unstated_times rows)

nothing_gathered : (rows : ℕ) → Gathered (unstated rows) false []
nothing_gathered rows = record {
  stated = All-nil (λ (its : RowBound). get_or (unstated rows) (its.row - 1) None ≡ Some its.bound);
  noted = λ position inside. unstated_there rows position;
  among = All-nil (λ (its : RowBound). IsAmong (length (unstated rows)) its.row);
  times = unstated_times rows;
  ended_is = refl;
}

-- ---- one line more

both_false : (one other : Bool) → (one || other) ≡ false → (one ≡ false) × (other ≡ false)
both_false false other is = (refl, is)
both_false true other is = absurd cc

-- what is stated of other rows stays
others_stay : (bounds : List (Option ℕ)) (found : Option ℕ) (number : ℕ) (its : List RowBound) → 1 ≤ number → All (λ (b : RowBound). IsAmong (length bounds) b.row) its
    → list_any (λ (b : RowBound). b.row == number) its ≡ false → All (λ (b : RowBound). get_or bounds (b.row - 1) None ≡ Some b.bound) its
    → All (λ (b : RowBound). get_or (set bounds (number - 1) found) (b.row - 1) None ≡ Some b.bound) its
others_stay bounds found number [] some among none stated = All-nil (λ (b : RowBound). get_or (set bounds (number - 1) found) (b.row - 1) None ≡ Some b.bound)
others_stay bounds found number (b ∷ its) some among none stated =
    let here = All-head (λ (b : RowBound). IsAmong (length bounds) b.row) b its among in
    let first = here.first in
    let tests = both_false (b.row == number) (list_any (λ (b : RowBound). b.row == number) its) none in
    let apart : b.row - 1 ≢ number - 1 = λ same. absurd (grind (arith, nat_tests, tests.0, first, some, same)) in
    All-cons (λ (b : RowBound). get_or (set bounds (number - 1) found) (b.row - 1) None ≡ Some b.bound) b its
    (get_or-set_other bounds (number - 1) (b.row - 1) found None apart ∙ All-head (λ (b : RowBound). get_or bounds (b.row - 1) None ≡ Some b.bound) b its stated)
    (others_stay bounds found number its some (All-tail (λ (b : RowBound). IsAmong (length bounds) b.row) b its among) tests.1
    (All-tail (λ (b : RowBound). get_or bounds (b.row - 1) None ≡ Some b.bound) b its stated))

module _ (bounds : List (Option ℕ)) (ended : Bool) (before : List TimesLine) (its : RowBound) (g : Gathered bounds ended before)
    (once : has_row before its.row ≡ false) (row : IsAmong (length bounds) its.row) (time : IsTime its.bound) where
  abbrev more : List (Option ℕ)
  more = set bounds (its.row - 1) (Some its.bound)

  count : length more ≡ length bounds
  count = length-set bounds (its.row - 1) (Some its.bound)

  inside : its.row - 1 < length bounds
  inside = let first = row.first in let last = row.last in omega (arith, first, last)

  noted_more : (position : ℕ) → position < length bounds → (same : Bool) → (its.row == position + 1) ≡ same → is_some (get_or more position None) ≡ has_row (Bound its ∷ before) (position + 1)
  noted_more position within true is =
      let here : position ≡ its.row - 1 = grind (arith, nat_tests, is) in
      let there : get_or more position None ≡ Some its.bound = get_or-set_at bounds (its.row - 1) position (Some its.bound) None here inside in
      rw (is, there) refl
  noted_more position within false is =
      let first = row.first in
      let apart : position ≢ its.row - 1 = λ same. absurd (grind (arith, nat_tests, is, first, same)) in
      rw (is, get_or-set_other bounds (its.row - 1) position (Some its.bound) None apart) (g.noted position within)

  with_bound : Gathered more false (Bound its ∷ before)
  with_bound = record {
    stated = All-cons (λ (b : RowBound). get_or more (b.row - 1) None ≡ Some b.bound) its (filter_map row_bound before)
        (get_or-set_at bounds (its.row - 1) (its.row - 1) (Some its.bound) None refl inside)
        (others_stay bounds (Some its.bound) its.row (filter_map row_bound before) row.first g.among once g.stated);
    noted = λ position within. noted_more position (subst (λ (n : ℕ). position < n) count within) (its.row == position + 1) refl;
    among = subst (λ (n : ℕ). All (λ (b : RowBound). IsAmong n b.row) (its ∷ filter_map row_bound before)) (sym count)
        (All-cons (λ (b : RowBound). IsAmong (length bounds) b.row) its (filter_map row_bound before) row g.among);
    times = All-set (λ (bound : Option ℕ). IfSome bound IsTime) bounds (its.row - 1) (Some its.bound) time g.times;
    ended_is = refl;
  }

-- ---- all lines of a text without a fault

module _ (rows : ℕ) where
  -- the lines so far are gathered for so many rows
  record AreGathered (before : List TimesLine) : Type 0 where
    pub bounds : List (Option ℕ)
    pub count : length bounds ≡ rows
    pub ended : Bool
    pub gathered : Gathered bounds ended before

  line_more : (before : List TimesLine) (line : List ℕ) (its : TimesLine) (version : ℕ) → States line its → AreGathered before
      → (faults rows).fault_after version before its ≡ None → AreGathered (its ∷ before)
  line_more before line End version states are none = record { bounds = are.bounds; count = are.count; ended = true; gathered = with_end are.bounds are.ended before are.gathered }
  line_more before line (Bound its) version states are none =
      let opened = no_fault (has_ended is_end before) BadLine (line_fault rows before (Bound its)) none in
      let once = no_fault (has_row before its.row) Twice _ opened.1 in
      let here = no_fault (its.row == 0 || nat_lt rows its.row) NoRow _ once.1 in
      let within = no_fault (its.bound == 0 || nat_lt 20000 its.bound) TimeRange _ here.1 in
      let row_tests = both_false (its.row == 0) (nat_lt rows its.row) here.0 in
      let time_tests = both_false (its.bound == 0) (nat_lt 20000 its.bound) within.0 in
      let count = are.count in
      let row : IsAmong (length are.bounds) its.row = record { first = grind (arith, nat_tests, row_tests.0); last = grind (arith, nat_tests, row_tests.1, count) } in
      let time : IsTime its.bound = record { some = grind (arith, nat_tests, time_tests.0); most = grind (arith, nat_tests, time_tests.1) } in
      record {
        bounds = more are.bounds are.ended before its are.gathered once.0 row time;
        count = length-set are.bounds (its.row - 1) (Some its.bound) ∙ count;
        ended = false;
        gathered = with_bound are.bounds are.ended before its are.gathered once.0 row time;
      }

  text_gathered : (text : List ℕ) (lines : List TimesLine) → IsTextOf times_name 1 States (faults rows) text lines → AreGathered (reverse lines)
  text_gathered text lines is =
      let none : AreGathered [] = record { bounds = unstated rows; count = unstated_count rows; ended = false; gathered = nothing_gathered rows } in
      text_kept times_name 1 States (faults rows) AreGathered line_more none text lines is

  bounds_stated : (text : List ℕ) (lines : List TimesLine) → IsTextOf times_name 1 States (faults rows) text lines
      → (stated : List (Option ℕ)) × AreBounds rows lines (bounds_where stated) × All (λ (bound : Option ℕ). IfSome bound IsTime) stated
  bounds_stated text lines is =
      let all = text_gathered text lines is in (
        all.bounds,
        subst (λ (n : ℕ). AreBounds n lines (bounds_where all.bounds)) all.count (all_stated all.bounds all.ended lines all.gathered),
        all.gathered.times,
      )

-- ---- a text means something, and one thing

each_line : EachIsRead States
each_line line = some_reading States some_statement line

one_line : (line : List ℕ) (reading other : Reading TimesLine) → IsReading States line reading → IsReading States line other → reading ≡ other
one_line line reading other is also = one_reading States line (one_statement line) (idle_states_nothing line) reading other is also

some_opening : (line : List ℕ) → (reading : Reading TimesLine) × IsFirstReading times_name 1 line reading
some_opening line = some_first_reading times_name 1 line name_field

one_opening : (line : List ℕ) (reading other : Reading TimesLine) → IsFirstReading times_name 1 line reading → IsFirstReading times_name 1 line other → reading ≡ other
one_opening line reading other is also = one_first_reading times_name 1 line reading other name_field is also

module _ (rows : ℕ) (text : List ℕ) where
  pub each_text_means : ((bounds : List ℕ) × IsBudgetOf rows text bounds) ⊎ ((line : ℕ) × (kind : BudgetKind) × IsFaultyBudget rows text line kind)
  each_text_means = elim (statements.some_meaning times_name 1 States some_opening one_opening each_line one_line (faults rows) text) [
    | inl (lines, is) ↦ let (stated, are, times) = bounds_stated rows text lines is in inl (bounds_where stated, record { lines = lines; is_text = is; are_bounds = are })
    | inr faulty ↦ inr faulty
  ]

  pub one_budget_of : (one other : List ℕ) → IsBudgetOf rows text one → IsBudgetOf rows text other → one ≡ other
  one_budget_of one other is also =
      let lines = statements.one_text times_name 1 States some_opening one_opening each_line one_line (faults rows) text is.lines also.lines is.is_text also.is_text in
      one_budget rows is.lines one other is.are_bounds (subst (λ (l : List TimesLine). AreBounds rows l other) (sym lines) also.are_bounds)

  pub one_fault_of : (line other_line : ℕ) (kind other_kind : BudgetKind) → IsFaultyBudget rows text line kind → IsFaultyBudget rows text other_line other_kind
      → (line ≡ other_line) × (kind ≡ other_kind)
  one_fault_of line other_line kind other_kind is also =
      statements.one_fault times_name 1 States some_opening one_opening each_line one_line (faults rows) text line other_line kind other_kind is also

  pub never_both : (bounds : List ℕ) (line : ℕ) (kind : BudgetKind) → IsBudgetOf rows text bounds → IsFaultyBudget rows text line kind → ⊥
  never_both bounds line kind is faulty =
      statements.not_both times_name 1 States some_opening one_opening each_line one_line (faults rows) text is.lines line kind is.is_text faulty

  pub cycle_kept : (bounds : List ℕ) → IsBudgetOf rows text bounds → (number : ℕ) → bound_of bounds number ≤ 20000
  cycle_kept bounds is number =
      let (stated, are, times) = bounds_stated rows text is.lines is.is_text in
      subst (λ (b : List ℕ). bound_of b number ≤ 20000) (sym (one_budget rows is.lines bounds (bounds_where stated) is.are_bounds are)) (never_above stated times number)
