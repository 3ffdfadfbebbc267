-- The line that a script's fault is printed as.
use Rattle.std.specs.Prelude.{ℕ, List, [], ◌++◌, codes}
use Rattle.std.specs.Fmt.{decimal}
use Rattle.ags_script.specs.declared.script_errors.ScriptKind.{ScriptKind}
use Rattle.ags_script.specs.declared.script_errors.ScriptKind.TheVariants.{BadLine, NoPort, TooManySteps}
use Rattle.ags_script.specs.declared.script_errors.ScriptError.{ScriptError}
use Rattle.ags_script.specs.declared.script_errors.ScriptError.TheVariants.{At, NoMemory}

-- a fault's number and its name
abbrev pub kind_text : ScriptKind → List ℕ
kind_text BadLine = codes "1 BadLine"
kind_text NoPort = codes "2 NoPort"
kind_text TooManySteps = codes "3 TooManySteps"

-- of a fault, its line's number in decimal, without leading zeros, and what is wrong with it; of want of memory, nothing
abbrev pub error_text : ScriptError → List ℕ
error_text (At line kind) = codes "SCRIPT LINE " ++ decimal line ++ codes " ERROR " ++ kind_text kind
error_text NoMemory = []
