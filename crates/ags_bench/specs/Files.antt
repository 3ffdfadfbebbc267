-- The kinds of files that the bench reads: how long each may be, what it holds, and when it is refused, with which line and
-- status.
use Rattle.std.specs.Prelude.{◌≡◌, ℕ, List, Ok}
use Rattle.ags_cert.specs.Cert.{Stated}
use Rattle.ags_cert.specs.Length.{certificate_limit}
use Rattle.ags_cert.specs.Text.{IsCertOf}
use Rattle.ags_machfile.specs.Limit.{machine_limit}
use Rattle.ags_machfile.specs.MachineFile.{machine_of}
use Rattle.ags_places.specs.Limit.{source_limit}
use Rattle.ags_ports.specs.declared.machines.Machine.{Machine}
use Rattle.ags_program.specs.Files.{Assembly, HoldsSource, RefusesMachine, RefusesSource, RefusesCertificate}
use Rattle.ags_program.specs.Text.{script_fault_line}
use Rattle.ags_script.specs.Limit.{script_limit}
use Rattle.ags_script.specs.declared.script_errors.ScriptKind.{ScriptKind}
use Rattle.ags_script.specs.declared.script_errors.ScriptError.TheVariants.{At}
use Rattle.ags_benchscript.specs.declared.commands.BenchCommand.{BenchCommand}
use Rattle.ags_benchscript.specs.Script.{IsScript, IsFaultyScript}
use Rattle.ags_program.specs.declared.status.Status.{Status}
use Rattle.ags_program.specs.declared.status.Status.TheVariants.{BadMachine, BadSource, BadCert, BadText}

-- a machine file; or a source, a certificate or a bench script for a machine
pub data Kind : Type 0 where
  MachineFile : Kind
  Source : (machine : Machine) → Kind
  Certificate : (machine : Machine) → Kind
  Script : (machine : Machine) → Kind

-- what a file of a kind holds
abbrev pub Value : Kind → Type 0
Value MachineFile = Machine
Value (Source machine) = Assembly
Value (Certificate machine) = Stated
Value (Script machine) = List (ℕ × BenchCommand)

-- how many bytes a file of a kind has at most
abbrev pub limit_of : Kind → ℕ
limit_of MachineFile = machine_limit
limit_of (Source machine) = source_limit
limit_of (Certificate machine) = certificate_limit
limit_of (Script machine) = script_limit

-- the bytes hold this value
abbrev pub Holds : (kind : Kind) → (bytes : List ℕ) → Value kind → Type 0
Holds MachineFile bytes machine = machine_of bytes ≡ Ok machine
Holds (Source machine) bytes assembly = HoldsSource machine.codes bytes assembly
Holds (Certificate machine) bytes cert = IsCertOf machine.ports bytes cert
Holds (Script machine) bytes lines = IsScript machine bytes lines

-- the bytes are a bench script with a fault for the machine, and this is the line of its first one
pub record RefusesScript (machine : Machine) (bytes line : List ℕ) : Type 0 where
  pub number : ℕ
  pub kind : ScriptKind
  pub faulty : IsFaultyScript machine bytes number kind
  pub line_is : line ≡ script_fault_line (At number kind)

-- the bytes are refused with this line
abbrev pub Refuses : (kind : Kind) → (bytes line : List ℕ) → Type 0
Refuses MachineFile bytes line = RefusesMachine bytes line
Refuses (Source machine) bytes line = RefusesSource bytes line
Refuses (Certificate machine) bytes line = RefusesCertificate machine bytes line
Refuses (Script machine) bytes line = RefusesScript machine bytes line

-- the status of a refused file
abbrev pub refused_status : Kind → Status
refused_status MachineFile = BadMachine
refused_status (Source machine) = BadSource
refused_status (Certificate machine) = BadCert
refused_status (Script machine) = BadText
