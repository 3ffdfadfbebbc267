-- What a reader makes of bytes, and what a loader answers by it.
use Rattle.std.specs.Prelude.{All, ◌≡◌, ℕ, ◌<◌, ◌≤◌, List, length, Option, Some, None, Result, Ok, Err}
use Rattle.std.specs.Global.{Vec}
use Rattle.ags_asm.specs.Source.{IsFaulty}
use Rattle.ags_cert.specs.Cert.{Stated}
use Rattle.ags_cert.specs.Length.{certificate_limit}
use Rattle.ags_cert.specs.Text.{IsCertOf, IsFaultyCert}
use Rattle.ags_certtext.specs.declared.cert_error.CertError.{CertError}
use Rattle.ags_certtext.specs.declared.cert_error.CertError.TheVariants as certificate
use Rattle.ags_listing.specs.declared.list_error.ListError.{ListError}
use Rattle.ags_listing.specs.Limit.{listing_limit}
use Rattle.ags_listing.specs.Reads.{IsFaultyListing, Reads}
use Rattle.ags_machfile.specs.declared.mach_error.MachError.{MachError}
use Rattle.ags_machfile.specs.Limit.{machine_limit}
use Rattle.ags_machfile.specs.MachineFile.{machine_of}
use Rattle.ags_outside.specs.ToldFile.{ToldFile}
use Rattle.ags_places.specs.declared.source_error.SourceError.{SourceError}
use Rattle.ags_places.specs.Limit.{source_limit}
use Rattle.ags_plan.specs.declared.unloaded.Unloaded.{Unloaded}
use Rattle.ags_plan.specs.declared.unloaded.Unloaded.TheVariants.{Absent, TooLong, Refused, ReadFault, NoMemory}
use Rattle.ags_plan.specs.Plan.{Definition}
use Rattle.ags_plan.specs.Walk.{Agrees}
use Rattle.ags_ports.specs.declared.machines.Machine.{Machine}
use Rattle.ags_script.specs.declared.commands.Command.{Command}
use Rattle.ags_script.specs.declared.script_errors.ScriptError.{ScriptError}
use Rattle.ags_script.specs.declared.script_errors.ScriptError.TheVariants as script
use Rattle.ags_script.specs.Limit.{script_limit}
use Rattle.ags_script.specs.Script.{IsScript, IsFaultyScript}
use Rattle.ags_edits.specs.declared.edits.Edit.{Edit}
use Rattle.ags_edits.specs.declared.edits_errors.EditsError.{EditsError}
use Rattle.ags_edits.specs.declared.edits_errors.EditsError.TheVariants as edits
use Rattle.ags_edits.specs.Limit.{edits_limit}
use Rattle.ags_edits.specs.Text.{IsEditsOf, IsFaultyEdits, IsLawful}
use Rattle.ags_times.specs.declared.budget_errors.BudgetError.{BudgetError}
use Rattle.ags_times.specs.declared.budget_errors.BudgetError.TheVariants as times
use Rattle.ags_times.specs.Limit.{times_limit}
use Rattle.ags_times.specs.Text.{IsBudgetOf, IsFaultyBudget}
use Rattle.ags_tags.specs.declared.scale_errors.ScaleError.{ScaleError}
use Rattle.ags_tags.specs.declared.scale_errors.ScaleError.TheVariants as scales
use Rattle.ags_tags.specs.Limit.{scales_limit}
use Rattle.ags_tags.specs.Tag.{Scaling}
use Rattle.ags_tags.specs.Text.{IsScalesOf, IsFaultyScales}
use Rattle.ags_files.specs.declared.sources.SourceFile.{SourceFile}
use Rattle.ags_files.specs.Source.{IsSourceOf}

-- What a reader makes of bytes: how many it takes at most; when they hold a value; and when they are refused, with a first fault.
pub record Reading (V E : Type 0) : Type 1 where
  pub limit : ℕ
  pub Holds : (bytes : List ℕ) → V → Type 0
  pub Refuses : (bytes : List ℕ) → E → Type 0

-- A reader's answer for bytes at hand: what they hold, or their first fault, or want of memory.
abbrev pub ReadsBytes : {V E : Type 0} (reading : Reading V E) (bytes : List ℕ) → Result V (Unloaded E) → Type 0
ReadsBytes reading bytes (Ok value) = reading.Holds bytes value
ReadsBytes reading bytes (Err (Refused error)) = reading.Refuses bytes error
ReadsBytes reading bytes (Err NoMemory) = Unit {0}
ReadsBytes reading bytes (Err _) = ⊥

-- A loader's answer for the file of a name: what the bytes of a file hold that agrees with what the shelf tells, within the limit, or
-- their first fault; or that it is absent, or longer; or a fault of the shelf, or want of memory.
abbrev pub ReadsFile : {V E : Type 0} (reading : Reading V E) (told : ToldFile) (name : List ℕ) → Result V (Unloaded E) → Type 0
ReadsFile reading told name (Ok value) = (bytes : List ℕ) × Agrees told (Some bytes) × (length bytes ≤ reading.limit) × reading.Holds bytes value
ReadsFile reading told name (Err (Refused error)) = (bytes : List ℕ) × Agrees told (Some bytes) × (length bytes ≤ reading.limit) × reading.Refuses bytes error
ReadsFile reading told name (Err (Absent absent)) = (absent.now ≡ name) × Agrees told None
ReadsFile reading told name (Err (TooLong long most)) = (long.now ≡ name) × (most ≡ reading.limit) × ((bytes : List ℕ) × Agrees told (Some bytes) × (reading.limit < length bytes))
ReadsFile reading told name (Err _) = Unit {0}

-- the answer of a loader, with its first fault as a refusal of another kind
abbrev pub with_refusal : {V E R : Type 0} (refusal_of : E → R) → Result V (Unloaded E) → Result V (Unloaded R)
with_refusal refusal_of (Ok value) = Ok value
with_refusal refusal_of (Err (Refused error)) = Err (Refused (refusal_of error))
with_refusal refusal_of (Err (Absent absent)) = Err (Absent absent)
with_refusal refusal_of (Err (TooLong long most)) = Err (TooLong long most)
with_refusal refusal_of (Err ReadFault) = Err ReadFault
with_refusal refusal_of (Err NoMemory) = Err NoMemory

-- A kind of a program's files reads as a reading does: with its limit, each value that is read as a value of the kind, and each first
-- fault as a refusal of the program's, with the line and the status of the kind.
pub record ReadsAs {Status V E R : Type 0} (reading : Reading V E) (D : Definition Status) (kind : D.Kind) (value_of : V → D.Value kind) (refusal_of : E → R)
    (line_of : R → List ℕ) (status_of : R → Status) : Type 0 where
  pub limit : D.limit kind ≡ reading.limit
  pub holds : (bytes : List ℕ) (value : V) → reading.Holds bytes value → D.Holds kind bytes (value_of value)
  pub refuses : (bytes : List ℕ) (error : E) → reading.Refuses bytes error → D.Refuses kind bytes (line_of (refusal_of error))
  pub status : (error : E) → status_of (refusal_of error) ≡ D.refused kind

-- ---- the readings of each kind of file

-- a machine file
abbrev pub machine_reading : Reading Machine MachError
machine_reading = record { limit = machine_limit; Holds = λ bytes machine. machine_of bytes ≡ Ok machine; Refuses = λ bytes error. machine_of bytes ≡ Err error }

-- a source, for a machine
abbrev pub source_reading : Machine → Reading SourceFile SourceError
source_reading machine = record { limit = source_limit; Holds = IsSourceOf machine.codes; Refuses = IsFaulty }

-- a listing
abbrev pub listing_reading : Reading (List (Option ℕ)) ListError
listing_reading = record { limit = listing_limit; Holds = Reads; Refuses = IsFaultyListing }

-- the first fault of a certificate's text, for a machine
abbrev pub RefusesCertificate : Machine → (bytes : List ℕ) → CertError → Type 0
RefusesCertificate machine bytes (certificate.At line kind) = IsFaultyCert machine.ports bytes line kind
RefusesCertificate machine bytes certificate.NoMemory = ⊥

-- a certificate, for a machine
abbrev pub certificate_reading : Machine → Reading Stated CertError
certificate_reading machine = record { limit = certificate_limit; Holds = IsCertOf machine.ports; Refuses = RefusesCertificate machine }

-- the first fault of a script's text, for a machine
abbrev pub RefusesScript : Machine → (bytes : List ℕ) → ScriptError → Type 0
RefusesScript machine bytes (script.At line kind) = IsFaultyScript machine bytes line kind
RefusesScript machine bytes script.NoMemory = ⊥

-- a script, for a machine
abbrev pub script_reading : Machine → Reading (List Command) ScriptError
script_reading machine = record { limit = script_limit; Holds = IsScript machine; Refuses = RefusesScript machine }

-- the first fault of a text of times, for so many rows
abbrev pub RefusesTimes : (rows : ℕ) → (bytes : List ℕ) → BudgetError → Type 0
RefusesTimes rows bytes (times.At line kind) = IsFaultyBudget rows bytes line kind
RefusesTimes rows bytes times.NoMemory = ⊥

-- a text of times, for so many rows
abbrev pub times_reading : (rows : ℕ) → Reading (List ℕ) BudgetError
times_reading rows = record { limit = times_limit; Holds = IsBudgetOf rows; Refuses = RefusesTimes rows }

-- the first fault of a text of scales, for a machine and so many rows
abbrev pub RefusesScales : (machine : Machine) → (rows : ℕ) → (bytes : List ℕ) → ScaleError → Type 0
RefusesScales machine rows bytes (scales.At line kind) = IsFaultyScales machine.ports rows bytes line kind
RefusesScales machine rows bytes scales.NoMemory = ⊥

-- a text of scales, for a machine and so many rows
abbrev pub scales_reading : (machine : Machine) → (rows : ℕ) → Reading Scaling ScaleError
scales_reading machine rows = record { limit = scales_limit; Holds = IsScalesOf machine.ports rows; Refuses = RefusesScales machine rows }

-- the first fault of a text of edits, and the edits of one without a fault, which are all of the memory
abbrev pub RefusesEdits : (bytes : List ℕ) → EditsError → Type 0
RefusesEdits bytes (edits.At line kind) = IsFaultyEdits bytes line kind
RefusesEdits bytes edits.NoMemory = ⊥

abbrev pub HoldsEdits : (bytes : List ℕ) → Vec Edit → Type 0
HoldsEdits bytes made = IsEditsOf bytes made.items × All IsLawful made.items

-- a text of edits
abbrev pub edits_reading : Reading (Vec Edit) EditsError
edits_reading = record { limit = edits_limit; Holds = HoldsEdits; Refuses = RefusesEdits }
