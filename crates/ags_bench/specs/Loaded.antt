-- What the loader of a source and a certificate answers, whatever is read after them.
use Rattle.std.specs.Prelude.{ℕ, List, [], Option, Result, Ok, Err}
use Rattle.ags_plan.specs.Loading.{Loads}
use Rattle.ags_plan.specs.Plan.{Plan, End, Do, Read}
use Rattle.ags_plan.specs.Walk.{Told}
use Rattle.ags_ports.specs.declared.machines.Machine.{Machine}
use Rattle.ags_program.specs.Files.{Pair}
use Rattle.ags_bench.specs.Files.{Source, Certificate, Script}
use Rattle.ags_bench.specs.Program.{program}
use Rattle.ags_bench.specs.Work.{Work, DrivePair}

-- The source and the certificate of these names are read, in this order, and then what the pair goes on with.
abbrev pub pair_plan : Machine → (source certificate : List ℕ) → (behind : Pair → Plan (program [])) → Plan (program [])
pair_plan machine source certificate behind = Read (Source machine) source (λ assembly.
    Read (Certificate machine) certificate (λ cert.
    behind (record { machine = machine; assembly = assembly; cert = cert })))

-- With what was read the rest goes on, or the walk ends at one of the two.
abbrev pub LoadsPair : (told : Told) → Machine → (source certificate : List ℕ) → Result Pair (Option (End (program []))) → Type 0
LoadsPair told machine source certificate (Ok pair) = (behind : Pair → Plan (program [])) (result : Result Work (Option (End (program []))))
    → Loads (program []) told (behind pair) result → Loads (program []) told (pair_plan machine source certificate behind) result
LoadsPair told machine source certificate (Err why) = (behind : Pair → Plan (program [])) → Loads (program []) told (pair_plan machine source certificate behind) (Err why)

-- The script of a name is read for the pair's machine, and the pair is driven by it.
abbrev pub script_plan : (script : List ℕ) → Pair → Plan (program [])
script_plan script pair = Read (Script pair.machine) script (λ lines. Do (DrivePair pair lines))
