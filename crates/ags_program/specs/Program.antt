-- The program: its definition, and the plan of each command.
use Rattle.std.specs.Prelude.{ℕ, List, length, Option, Some, None, codes}
use Rattle.ags_command.specs.Command.{Command, Write, Compare, Certify, Run, Guard, Budget, Scales, Edits, Asked, OnMachine, Workload, asked_of}
use Rattle.ags_load.specs.Workload.{source_text, cert_text}
use Rattle.ags_plan.specs.Plan.{Definition, Plan, Do, Read, Take}
use Rattle.ags_ports.specs.declared.machines.Machine.{Machine}
use Rattle.ags_ports.specs.Machine.{standard_machine}
use Rattle.ags_program.specs.declared.status.Status.{Status}
use Rattle.ags_program.specs.Files.{Kind, MachineFile, Source, Listing, Certificate, Script, Times, ScaleTags, EditList, Pair, Value, limit_of, Holds, Refuses, refused_status}
use Rattle.ags_program.specs.Status.{cause_of, stop_status}
use Rattle.ags_program.specs.Work.{Work, NoForm, WriteText, CompareImages, JudgePair, PlayScript, ListingBefore, PlayBehind, CountsInstead, BudgetBehind, ScalesBehind, EditsBehind, Makes}

-- the program's kinds of files, its works and its statuses
abbrev pub program : Definition Status
program = record {
  Kind = Kind;
  Value = Value;
  limit = limit_of;
  Holds = Holds;
  Refuses = Refuses;
  refused = refused_status;
  Work = Work;
  Makes = Makes;
  status_of = stop_status;
  cause = cause_of;
}

-- what is read of a source and a certificate, in this order, and what goes on after the two
abbrev pub pair_plan : Machine → (source certificate : List ℕ) → (behind : Pair → Plan program) → Plan program
pair_plan machine source certificate behind =
    Read (Source machine) source (λ assembly. Read (Certificate machine) certificate (λ cert. behind (record { machine = machine; assembly = assembly; cert = cert })))

-- what a command reads, in this order, and does, on a machine
abbrev pub command_plan : Machine → Command → Plan program
command_plan machine (Write text source) = Read (Source machine) source (λ assembly. Do (WriteText text assembly))
command_plan machine (Compare source listing) =
    Read (Source machine) source (λ assembly. Read Listing listing (λ listed. Do (CompareImages assembly.defined listed)))
command_plan machine (Certify source certificate) = pair_plan machine source certificate (λ pair. Do (JudgePair pair ListingBefore))
command_plan machine (Run source script) =
    Read (Source machine) source (λ assembly. Read (Script machine) script (λ commands. Do (PlayScript machine assembly.defined commands)))
command_plan machine (Guard source script certificate) =
    pair_plan machine source certificate (λ pair. Read (Script pair.machine) script (λ commands. Do (JudgePair pair (PlayBehind commands))))
command_plan machine (Budget source certificate times) =
    pair_plan machine source certificate (λ pair. Read (Times (length pair.cert.rows)) times (λ bounds. Do (JudgePair pair (BudgetBehind bounds))))
command_plan machine (Scales source certificate scales) =
    pair_plan machine source certificate
    (λ pair. Read (ScaleTags pair.machine (length pair.cert.rows)) scales (λ declared. Do (JudgePair pair (ScalesBehind declared))))
command_plan machine (Edits source certificate edits) =
    pair_plan machine source certificate (λ pair. Read EditList edits (λ made. Do (JudgePair pair (EditsBehind made))))

-- what is read and done on the machine of a file of that name, or on the standard one, where none is named
abbrev pub plan_on : Option (List ℕ) → (Machine → Plan program) → Plan program
plan_on None next = next standard_machine
plan_on (Some name) next = Read MachineFile name next

-- the names under which the two texts of a workload are read
abbrev pub workload_source : List ℕ
workload_source = codes "workload source"

abbrev pub workload_certificate : List ℕ
workload_certificate = codes "workload certificate"

-- what is read and done for the workload of a size: its two texts, which the program makes itself, for the standard machine
abbrev pub workload_plan : (size : ℕ) → Plan program
workload_plan size = Take (Source standard_machine) workload_source (source_text size) (λ assembly.
    Take (Certificate standard_machine) workload_certificate (cert_text size) (λ cert.
    Do (JudgePair (record { machine = standard_machine; assembly = assembly; cert = cert }) (CountsInstead size))))

-- what is asked for: where the arguments are no form, that is said
abbrev pub asked_plan : Option Asked → Plan program
asked_plan None = Do NoForm
asked_plan (Some (OnMachine line)) = plan_on line.machine (λ machine. command_plan machine line.command)
asked_plan (Some (Workload size)) = workload_plan size

-- what a command line asks for, by its arguments
abbrev pub plan_of : List (List ℕ) → Plan program
plan_of arguments = asked_plan (asked_of arguments)
