-- The kinds of files that commands read: how long each may be, what it holds, and when it is refused, with which line and status.
use Rattle.std.specs.Prelude.{◌≡◌, ℕ, List, Option, Ok, Err}
use Rattle.ags_places.specs.declared.source_error.SourceError.{SourceError}
use Rattle.ags_cert.specs.Length.{certificate_limit}
use Rattle.ags_listing.specs.Limit.{listing_limit}
use Rattle.ags_machfile.specs.Limit.{machine_limit}
use Rattle.ags_places.specs.Limit.{source_limit}
use Rattle.ags_script.specs.Limit.{script_limit}
use Rattle.ags_asm.specs.Source.{CardWords, Defines, IsFaulty}
use Rattle.ags_cert.specs.Cert.{Stated}
use Rattle.ags_certtext.specs.declared.cert_error.CertKind.{CertKind}
use Rattle.ags_certtext.specs.declared.cert_error.CertError.TheVariants as certificate
use Rattle.ags_cert.specs.Text.{IsCertOf, IsFaultyCert}
use Rattle.ags_listing.specs.declared.list_error.ListError.{ListError}
use Rattle.ags_listing.specs.Reads.{IsFaultyListing, Reads}
use Rattle.ags_machfile.specs.declared.mach_error.MachError.{MachError}
use Rattle.ags_machfile.specs.MachineFile.{machine_of}
use Rattle.ags_ports.specs.declared.machines.Machine.{Machine}
use Rattle.ags_script.specs.declared.commands.Command.{Command}
use Rattle.ags_script.specs.declared.script_errors.ScriptKind.{ScriptKind}
use Rattle.ags_script.specs.declared.script_errors.ScriptError.TheVariants.{At}
use Rattle.ags_script.specs.Script.{IsScript, IsFaultyScript}
use Rattle.ags_edits.specs.declared.edits.Edit.{Edit}
use Rattle.ags_edits.specs.declared.edits_errors.EditsKind.{EditsKind}
use Rattle.ags_edits.specs.declared.edits_errors.EditsError.TheVariants as edits
use Rattle.ags_edits.specs.Limit.{edits_limit}
use Rattle.ags_edits.specs.Text.{IsEditsOf, IsFaultyEdits}
use Rattle.ags_tags.specs.declared.scale_errors.ScaleKind.{ScaleKind}
use Rattle.ags_tags.specs.declared.scale_errors.ScaleError.TheVariants as scales
use Rattle.ags_tags.specs.Limit.{scales_limit}
use Rattle.ags_tags.specs.Tag.{Scaling}
use Rattle.ags_tags.specs.Text.{IsScalesOf, IsFaultyScales}
use Rattle.ags_times.specs.declared.budget_errors.BudgetKind.{BudgetKind}
use Rattle.ags_times.specs.declared.budget_errors.BudgetError.TheVariants as times
use Rattle.ags_times.specs.Limit.{times_limit}
use Rattle.ags_times.specs.Text.{IsBudgetOf, IsFaultyBudget}
use Rattle.ags_program.specs.declared.status.Status.{Status}
use Rattle.ags_program.specs.declared.status.Status.TheVariants.{BadMachine, BadSource, BadCert, BadText}
use Rattle.ags_program.specs.Text.{certificate_fault_line, edits_fault_line, fault_line, listing_fault_line, machine_fault_line, scales_fault_line, script_fault_line, times_fault_line}

-- a machine file; a source, a certificate or a script for a machine; a listing; a text of times for so many rows; a text of scales
-- for a machine and so many rows; or a text of edits
pub data Kind : Type 0 where
  MachineFile : Kind
  Source : (machine : Machine) → Kind
  Listing : Kind
  Certificate : (machine : Machine) → Kind
  Script : (machine : Machine) → Kind
  Times : (rows : ℕ) → Kind
  ScaleTags : (machine : Machine) → (rows : ℕ) → Kind
  EditList : Kind

-- a source that was read: its bytes, and the places and the words of its cards
pub record Assembly : Type 0 where
  pub bytes : List ℕ
  pub defined : CardWords

-- a source and a certificate that were read for a machine
pub record Pair : Type 0 where
  pub machine : Machine
  pub assembly : Assembly
  pub cert : Stated

-- what a file of a kind holds
abbrev pub Value : Kind → Type 0
Value MachineFile = Machine
Value (Source machine) = Assembly
Value Listing = List (Option ℕ)
Value (Certificate machine) = Stated
Value (Script machine) = List Command
Value (Times rows) = List ℕ
Value (ScaleTags machine rows) = Scaling
Value EditList = List Edit

-- how many bytes a file of a kind has at most
abbrev pub limit_of : Kind → ℕ
limit_of MachineFile = machine_limit
limit_of (Source machine) = source_limit
limit_of Listing = listing_limit
limit_of (Certificate machine) = certificate_limit
limit_of (Script machine) = script_limit
limit_of (Times rows) = times_limit
limit_of (ScaleTags machine rows) = scales_limit
limit_of EditList = edits_limit

-- the bytes are a source without a fault, and this is what was read of it by the table of codes
pub record HoldsSource (order_codes bytes : List ℕ) (assembly : Assembly) : Type 0 where
  pub bytes_are : assembly.bytes ≡ bytes
  pub defines : Defines order_codes bytes assembly.defined

-- the bytes hold this value
abbrev pub Holds : (kind : Kind) → (bytes : List ℕ) → Value kind → Type 0
Holds MachineFile bytes machine = machine_of bytes ≡ Ok machine
Holds (Source machine) bytes assembly = HoldsSource machine.codes bytes assembly
Holds Listing bytes image = Reads bytes image
Holds (Certificate machine) bytes cert = IsCertOf machine.ports bytes cert
Holds (Script machine) bytes commands = IsScript machine bytes commands
Holds (Times rows) bytes bounds = IsBudgetOf rows bytes bounds
Holds (ScaleTags machine rows) bytes scales = IsScalesOf machine.ports rows bytes scales
Holds EditList bytes made = IsEditsOf bytes made

-- the bytes are no machine file, and this is the line of the first test that they fail
pub record RefusesMachine (bytes line : List ℕ) : Type 0 where
  pub error : MachError
  pub faulty : machine_of bytes ≡ Err error
  pub line_is : line ≡ machine_fault_line error

-- the bytes are a source with a fault, and this is the line of its first one
pub record RefusesSource (bytes line : List ℕ) : Type 0 where
  pub error : SourceError
  pub faulty : IsFaulty bytes error
  pub line_is : line ≡ fault_line error

-- the bytes are a listing with a fault, and this is the line of its first one
pub record RefusesListing (bytes line : List ℕ) : Type 0 where
  pub error : ListError
  pub faulty : IsFaultyListing bytes error
  pub line_is : line ≡ listing_fault_line error

-- the bytes are a certificate with a fault for the machine, and this is the line of its first one
pub record RefusesCertificate (machine : Machine) (bytes line : List ℕ) : Type 0 where
  pub number : ℕ
  pub kind : CertKind
  pub faulty : IsFaultyCert machine.ports bytes number kind
  pub line_is : line ≡ certificate_fault_line (certificate.At number kind)

-- the bytes are a script with a fault for the machine, and this is the line of its first one
pub record RefusesScript (machine : Machine) (bytes line : List ℕ) : Type 0 where
  pub number : ℕ
  pub kind : ScriptKind
  pub faulty : IsFaultyScript machine bytes number kind
  pub line_is : line ≡ script_fault_line (At number kind)

-- the bytes are a text of times with a fault for so many rows, and this is the line of its first one
pub record RefusesTimes (rows : ℕ) (bytes line : List ℕ) : Type 0 where
  pub number : ℕ
  pub kind : BudgetKind
  pub faulty : IsFaultyBudget rows bytes number kind
  pub line_is : line ≡ times_fault_line (times.At number kind)

-- the bytes are a text of scales with a fault for a machine and so many rows, and this is the line of its first one
pub record RefusesScales (machine : Machine) (rows : ℕ) (bytes line : List ℕ) : Type 0 where
  pub number : ℕ
  pub kind : ScaleKind
  pub faulty : IsFaultyScales machine.ports rows bytes number kind
  pub line_is : line ≡ scales_fault_line (scales.At number kind)

-- the bytes are a text of edits with a fault, and this is the line of its first one
pub record RefusesEdits (bytes line : List ℕ) : Type 0 where
  pub number : ℕ
  pub kind : EditsKind
  pub faulty : IsFaultyEdits bytes number kind
  pub line_is : line ≡ edits_fault_line (edits.At number kind)

-- the bytes are refused with this line
abbrev pub Refuses : (kind : Kind) → (bytes line : List ℕ) → Type 0
Refuses MachineFile bytes line = RefusesMachine bytes line
Refuses (Source machine) bytes line = RefusesSource bytes line
Refuses Listing bytes line = RefusesListing bytes line
Refuses (Certificate machine) bytes line = RefusesCertificate machine bytes line
Refuses (Script machine) bytes line = RefusesScript machine bytes line
Refuses (Times rows) bytes line = RefusesTimes rows bytes line
Refuses (ScaleTags machine rows) bytes line = RefusesScales machine rows bytes line
Refuses EditList bytes line = RefusesEdits bytes line

-- the status of a refused file
abbrev pub refused_status : Kind → Status
refused_status MachineFile = BadMachine
refused_status (Source machine) = BadSource
refused_status Listing = BadText
refused_status (Certificate machine) = BadCert
refused_status (Script machine) = BadText
refused_status (Times rows) = BadText
refused_status (ScaleTags machine rows) = BadText
refused_status EditList = BadText
