-- What a text of times says for so many rows: a bound for each of them, or its first fault.
use Rattle.std.specs.Prelude.{◌≡◌, ℕ, ◌≤◌, ◌==◌, ◌||◌, nat_lt, Bool, true, false, List, length, Option, Some, None, All, codes}
use Rattle.std.specs.List.{list_any, filter_map}
use Rattle.ags_frame.specs.Fault.{Faults, has_ended}
use Rattle.ags_statements.specs.Fault.{fault_if}
use Rattle.ags_statements.specs.Text.{IsTextOf, IsFaultyText}
use Rattle.ags_statements.specs.declared.reading.TextError.{TextError}
use Rattle.ags_statements.specs.declared.reading.TextError.TheVariants as text
use Rattle.ags_times.specs.Budget.{bound_of}
use Rattle.ags_times.specs.Spelling.{States}
use Rattle.ags_times.specs.declared.budget_errors.BudgetError.{BudgetError}
use Rattle.ags_times.specs.declared.budget_errors.BudgetError.TheVariants.{At, NoMemory}
use Rattle.ags_times.specs.declared.budget_errors.BudgetKind.{BudgetKind}
use Rattle.ags_times.specs.declared.budget_errors.BudgetKind.TheVariants.{BadLine, Version, Twice, NoRow, TimeRange}
use Rattle.ags_times.specs.declared.lines.RowBound.{RowBound}
use Rattle.ags_times.specs.declared.lines.TimesLine.{TimesLine}
use Rattle.ags_times.specs.declared.lines.TimesLine.TheVariants.{Bound, End}

-- the name that a text of times begins with
abbrev pub times_name : List ℕ
times_name = codes "AGSTIME"

-- the bound that a line states, if it states one
abbrev pub row_bound : TimesLine → Option RowBound
row_bound (Bound its) = Some its
row_bound End = None

-- one of the lines names the row
abbrev pub has_row : List TimesLine → ℕ → Bool
has_row lines number = list_any (λ (its : RowBound). its.row == number) (filter_map row_bound lines)

-- END ends a text
abbrev pub is_end : TimesLine → Bool
is_end (Bound its) = false
is_end End = true

-- the fault of a line that stands before END, for so many rows and given the lines before it: of several the least number is told
abbrev pub line_fault : (rows : ℕ) → List TimesLine → TimesLine → Option BudgetKind
line_fault rows before (Bound its) =
    fault_if (has_row before its.row) Twice
    (fault_if (its.row == 0 || nat_lt rows its.row) NoRow
    (fault_if (its.bound == 0 || nat_lt 20000 its.bound) TimeRange None))
line_fault rows before End = None

-- how a text of times tells faults for so many rows: nothing stands after END
abbrev pub faults : (rows : ℕ) → Faults TimesLine BudgetKind
faults rows = record {
  bad_line = BadLine;
  version = Version;
  is_end = is_end;
  fault_after = λ version before line. fault_if (has_ended is_end before) BadLine (line_fault rows before line);
}

-- The rows have the bounds that lines state, and 20,000, which is the cycle, where no line names the row.
pub record AreBounds (rows : ℕ) (lines : List TimesLine) (bounds : List ℕ) : Type 0 where
  pub count : length bounds ≡ rows
  pub stated : All (λ (its : RowBound). bound_of bounds its.row ≡ its.bound) (filter_map row_bound lines)
  pub others : (number : ℕ) → 1 ≤ number → number ≤ rows → has_row lines number ≡ false → bound_of bounds number ≡ 20000

-- The text is one of times for so many rows, without a fault, and these are the bounds of the rows.
pub record IsBudgetOf (rows : ℕ) (text : List ℕ) (bounds : List ℕ) : Type 0 where
  pub lines : List TimesLine
  pub is_text : IsTextOf times_name 1 States (faults rows) text lines
  pub are_bounds : AreBounds rows lines bounds

-- the text's first faulty line is this one, counted from 1, with this fault; where END is missing it is the line after the last
abbrev pub IsFaultyBudget : (rows : ℕ) (text : List ℕ) (line : ℕ) (kind : BudgetKind) → Type 0
IsFaultyBudget rows text line kind = IsFaultyText times_name 1 States (faults rows) text line kind

-- why a text was not read, where it was not want of memory
abbrev pub IsRefused : (rows : ℕ) → List ℕ → BudgetError → Type 0
IsRefused rows text (At line kind) = IsFaultyBudget rows text line kind
IsRefused rows text NoMemory = Unit {0}

-- the error that a text's fault is told as
abbrev pub error_of : TextError BudgetKind → BudgetError
error_of (text.At line fault) = At line fault
error_of text.NoMemory = NoMemory
