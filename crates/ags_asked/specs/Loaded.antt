-- What the loaders of several files answer.
use Rattle.std.specs.Prelude.{ℕ, List, length, Option, Result, Ok, Err}
use Rattle.ags_plan.specs.Loading.{Loads}
use Rattle.ags_plan.specs.Plan.{Plan, End, Do, Read}
use Rattle.ags_plan.specs.Walk.{Told}
use Rattle.ags_ports.specs.declared.machines.Machine.{Machine}
use Rattle.ags_program.specs.Files as file
use Rattle.ags_program.specs.Files.{Pair}
use Rattle.ags_program.specs.Program.{program, pair_plan}
use Rattle.ags_program.specs.Work.{Work, JudgePair, ListingBefore, PlayBehind, BudgetBehind, ScalesBehind, EditsBehind}
use Rattle.ags_asked.specs.declared.pairs.Behind.{Behind}
use Rattle.ags_asked.specs.declared.pairs.Behind.TheVariants.{Listing, Script, Times, Scales, Edits}

-- A loader's answer for a source and a certificate, whatever a plan goes on with after them: with what it read the rest goes on, or
-- the walk ends at one of the two.
abbrev pub LoadsPair : (told : Told) → Machine → (source certificate : List ℕ) → Result Pair (Option (End program)) → Type 0
LoadsPair told machine source certificate (Ok pair) = (behind : Pair → Plan program) (result : Result Work (Option (End program)))
    → Loads program told (behind pair) result → Loads program told (pair_plan machine source certificate behind) result
LoadsPair told machine source certificate (Err why) = (behind : Pair → Plan program) → Loads program told (pair_plan machine source certificate behind) (Err why)

-- What is read behind a source and a certificate, for their machine and for the rows of the certificate, and what is then done.
abbrev pub behind_plan : Behind → Pair → Plan program
behind_plan Listing = λ pair. Do (JudgePair pair ListingBefore)
behind_plan (Script name) = λ pair. Read (file.Script pair.machine) name.now (λ commands. Do (JudgePair pair (PlayBehind commands)))
behind_plan (Times name) = λ pair. Read (file.Times (length pair.cert.rows)) name.now (λ bounds. Do (JudgePair pair (BudgetBehind bounds)))
behind_plan (Scales name) = λ pair. Read (file.ScaleTags pair.machine (length pair.cert.rows)) name.now (λ declared. Do (JudgePair pair (ScalesBehind declared)))
behind_plan (Edits name) = λ pair. Read file.EditList name.now (λ made. Do (JudgePair pair (EditsBehind made)))
