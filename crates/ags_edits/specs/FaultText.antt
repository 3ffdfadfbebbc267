-- The line that a fault of a text of edits is printed as.
use Rattle.std.specs.Prelude.{ℕ, List, [], ◌++◌, codes}
use Rattle.std.specs.Fmt.{decimal}
use Rattle.ags_edits.specs.declared.edits_errors.EditsKind.{EditsKind}
use Rattle.ags_edits.specs.declared.edits_errors.EditsKind.TheVariants.{BadLine, Version, Twice, EmptyRange, TooManyAt, TooManyEdits}
use Rattle.ags_edits.specs.declared.edits_errors.EditsError.{EditsError}
use Rattle.ags_edits.specs.declared.edits_errors.EditsError.TheVariants.{At, NoMemory}

-- a fault's number and its name
abbrev pub kind_text : EditsKind → List ℕ
kind_text BadLine = codes "1 BadLine"
kind_text Version = codes "2 Version"
kind_text Twice = codes "3 Twice"
kind_text EmptyRange = codes "4 EmptyRange"
kind_text TooManyAt = codes "5 TooManyAt"
kind_text TooManyEdits = codes "6 TooManyEdits"

-- of a fault, its line's number in decimal, without leading zeros, and what is wrong with it; of want of memory, nothing
abbrev pub error_text : EditsError → List ℕ
error_text (At line kind) = codes "EDITS LINE " ++ decimal line ++ codes " ERROR " ++ kind_text kind
error_text NoMemory = []
