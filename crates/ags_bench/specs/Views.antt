-- What clauses see of what was loaded, and of refusals.
use Rattle.std.specs.Prelude.{ℕ, List}
use Rattle.ags_benchscript.specs.Script.{IsReadFor}
use Rattle.ags_program.specs.Text.{certificate_fault_line, fault_line, machine_fault_line, script_fault_line}
use Rattle.ags_program.specs.Views.{IsReadSource, pair_of}
use Rattle.ags_bench.specs.declared.refusal.Refusal.{Refusal}
use Rattle.ags_bench.specs.declared.refusal.Refusal.TheVariants as refusal
use Rattle.ags_program.specs.declared.status.Status.{Status}
use Rattle.ags_program.specs.declared.status.Status.TheVariants.{BadMachine, BadSource, BadCert, BadText}
use Rattle.ags_bench.specs.declared.works.Work.{Work}
use Rattle.ags_bench.specs.declared.works.Work.TheVariants as loaded
use Rattle.ags_bench.specs.Work as work

-- a work without where it lies in memory
abbrev pub work_of : Work → work.Work
work_of loaded.NoForm = work.NoForm
work_of (loaded.DrivePair pair script) = work.DrivePair (pair_of pair) script

-- what is so of a work that was loaded
abbrev pub IsReady : Work → Type 0
IsReady loaded.NoForm = Unit {0}
IsReady (loaded.DrivePair pair script) = IsReadSource pair.source × IsReadFor pair.machine script

-- the line of a refusal
abbrev pub line_of : Refusal → List ℕ
line_of (refusal.Machine error) = machine_fault_line error
line_of (refusal.Source error) = fault_line error
line_of (refusal.Certificate error) = certificate_fault_line error
line_of (refusal.Script error) = script_fault_line error

-- the status of a refusal
abbrev pub status_of : Refusal → Status
status_of (refusal.Machine error) = BadMachine
status_of (refusal.Source error) = BadSource
status_of (refusal.Certificate error) = BadCert
status_of (refusal.Script error) = BadText
