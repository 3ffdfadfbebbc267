-- The line that a fault of a text of times is printed as.
use Rattle.std.specs.Prelude.{ℕ, List, [], ◌++◌, codes}
use Rattle.std.specs.Fmt.{decimal}
use Rattle.ags_times.specs.declared.budget_errors.BudgetKind.{BudgetKind}
use Rattle.ags_times.specs.declared.budget_errors.BudgetKind.TheVariants.{BadLine, Version, Twice, NoRow, TimeRange}
use Rattle.ags_times.specs.declared.budget_errors.BudgetError.{BudgetError}
use Rattle.ags_times.specs.declared.budget_errors.BudgetError.TheVariants.{At, NoMemory}

-- a fault's number and its name
abbrev pub kind_text : BudgetKind → List ℕ
kind_text BadLine = codes "1 BadLine"
kind_text Version = codes "2 Version"
kind_text Twice = codes "3 Twice"
kind_text NoRow = codes "4 NoRow"
kind_text TimeRange = codes "5 TimeRange"

-- of a fault, its line's number in decimal, without leading zeros, and what is wrong with it; of want of memory, nothing
abbrev pub error_text : BudgetError → List ℕ
error_text (At line kind) = codes "TIMES LINE " ++ decimal line ++ codes " ERROR " ++ kind_text kind
error_text NoMemory = []
