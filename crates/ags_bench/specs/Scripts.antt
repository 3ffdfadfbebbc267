-- What a reader makes of the bytes of a bench script.
use Rattle.std.specs.Prelude.{ℕ, List}
use Rattle.ags_benchscript.specs.declared.commands.BenchCommand.{BenchCommand}
use Rattle.ags_benchscript.specs.Script.{IsScript, IsFaultyScript}
use Rattle.ags_files.specs.Reading.{Reading}
use Rattle.ags_ports.specs.declared.machines.Machine.{Machine}
use Rattle.ags_script.specs.declared.script_errors.ScriptError.{ScriptError}
use Rattle.ags_script.specs.declared.script_errors.ScriptError.TheVariants.{At, NoMemory}
use Rattle.ags_script.specs.Limit.{script_limit}

-- the first fault of a bench script's text, for a machine
abbrev pub RefusesText : Machine → (bytes : List ℕ) → ScriptError → Type 0
RefusesText machine bytes (At line kind) = IsFaultyScript machine bytes line kind
RefusesText machine bytes NoMemory = ⊥

-- a bench script, for a machine
abbrev pub script_reading : Machine → Reading (List (ℕ × BenchCommand)) ScriptError
script_reading machine = record { limit = script_limit; Holds = IsScript machine; Refuses = RefusesText machine }
