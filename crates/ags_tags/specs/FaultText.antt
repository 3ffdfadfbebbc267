-- The line that a fault of a text of scales is printed as.
use Rattle.std.specs.Prelude.{ℕ, List, [], ◌++◌, codes}
use Rattle.std.specs.Fmt.{decimal}
use Rattle.ags_tags.specs.declared.scale_errors.ScaleKind.{ScaleKind}
use Rattle.ags_tags.specs.declared.scale_errors.ScaleKind.TheVariants.{BadLine, Version, Twice, NoRow}
use Rattle.ags_tags.specs.declared.scale_errors.ScaleError.{ScaleError}
use Rattle.ags_tags.specs.declared.scale_errors.ScaleError.TheVariants.{At, NoMemory}

-- a fault's number and its name
abbrev pub kind_text : ScaleKind → List ℕ
kind_text BadLine = codes "1 BadLine"
kind_text Version = codes "2 Version"
kind_text Twice = codes "3 Twice"
kind_text NoRow = codes "4 NoRow"

-- of a fault, its line's number in decimal, without leading zeros, and what is wrong with it; of want of memory, nothing
abbrev pub error_text : ScaleError → List ℕ
error_text (At line kind) = codes "SCALES LINE " ++ decimal line ++ codes " ERROR " ++ kind_text kind
error_text NoMemory = []
