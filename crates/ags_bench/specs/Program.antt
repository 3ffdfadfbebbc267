-- The bench as a program: its definition with the devices that are handed in, and the plan of a command line.
use Rattle.std.specs.Prelude.{ℕ, List, Option, Some, None}
use Rattle.ags_device.specs.Record.{DeviceRecord}
use Rattle.ags_plan.specs.Plan.{Definition, Plan, Do, Read}
use Rattle.ags_ports.specs.declared.machines.Machine.{Machine}
use Rattle.ags_ports.specs.Machine.{standard_machine}
use Rattle.ags_program.specs.declared.status.Status.{Status}
use Rattle.ags_bench.specs.Files.{Kind, MachineFile, Source, Certificate, Script, Value, limit_of, Holds, Refuses, refused_status}
use Rattle.ags_program.specs.Status.{cause_of, stop_status}
use Rattle.ags_bench.specs.Words.{Asked, asked_of}
use Rattle.ags_bench.specs.Work.{Work, NoForm, DrivePair, Makes}

-- its kinds of files, its works and its statuses; the devices decide what a work makes, and nothing else
abbrev pub program : (devices : List DeviceRecord) → Definition Status
program devices = record {
  Kind = Kind;
  Value = Value;
  limit = limit_of;
  Holds = Holds;
  Refuses = Refuses;
  refused = refused_status;
  Work = Work;
  Makes = Makes devices;
  status_of = stop_status;
  cause = cause_of;
}

module _ (devices : List DeviceRecord) where
  -- the source, the certificate and the script are read, in this order, and the pair is judged, and driven
  abbrev pub files_plan : Asked → Machine → Plan (program devices)
  files_plan asked machine = Read (Source machine) asked.source (λ assembly.
      Read (Certificate machine) asked.certificate (λ cert.
      Read (Script machine) asked.script (λ lines.
      Do (DrivePair (record { machine = machine; assembly = assembly; cert = cert }) lines))))

  -- so on the machine of a file of that name, which is read first, or on the standard one, where none is named
  abbrev pub plan_on : Option (List ℕ) → (Machine → Plan (program devices)) → Plan (program devices)
  plan_on None next = next standard_machine
  plan_on (Some name) next = Read MachineFile name next

  -- what is asked for: where the words are no form, that is said
  abbrev pub asked_plan : Option Asked → Plan (program devices)
  asked_plan None = Do NoForm
  asked_plan (Some asked) = plan_on asked.machine (files_plan asked)

  -- what a command line asks for
  abbrev pub plan_of : List (List ℕ) → Plan (program devices)
  plan_of words = asked_plan (asked_of words)
