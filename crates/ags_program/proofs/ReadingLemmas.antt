-- What the loaders of files answer, each kind as the program has it.
use Rattle.std.proofs.Common.{◌≡◌, ℕ, Bool, false, List, length, Result, Ok, Err, refl, ◌∙◌, arith}
use Rattle.std.specs.Prelude.{All, IfOk}
use Rattle.std.specs.Global.{Vec}
use Rattle.ags_certtext.specs.declared.cert_error.CertError.{CertError}
use Rattle.ags_certtext.specs.declared.cert_error.CertError.TheVariants as certificate
use Rattle.ags_files.specs.declared.sources.SourceFile.{SourceFile}
use Rattle.ags_files.specs.Reading.{ReadsAs, ReadsBytes, ReadsFile, RefusesCertificate, RefusesScript, RefusesTimes, RefusesScales, RefusesEdits, machine_reading, source_reading, listing_reading, certificate_reading, script_reading, times_reading, scales_reading, edits_reading, with_refusal}
use Rattle.ags_outside.specs.Count.{HasCause, rose_since}
use Rattle.ags_outside.specs.ToldFile.{ToldFile}
use Rattle.ags_places.specs.declared.source_error.SourceError.{SourceError}
use Rattle.ags_plan.specs.declared.unloaded.Unloaded.{Unloaded}
use Rattle.ags_plan.specs.declared.unloaded.Unloaded.TheVariants.{Absent, TooLong, Refused, ReadFault, NoMemory}
use Rattle.ags_ports.specs.declared.machines.Machine.{Machine}
use Rattle.ags_script.specs.declared.commands.Command.{Command}
use Rattle.ags_script.specs.declared.script_errors.ScriptError.{ScriptError}
use Rattle.ags_script.specs.declared.script_errors.ScriptError.TheVariants as script
use Rattle.ags_script.specs.Script.{IsReadFor}
use Rattle.ags_program.specs.declared.refusal.Refusal.TheVariants as refusal
use Rattle.ags_edits.specs.Text.{IsLawful}
use Rattle.ags_edits.specs.declared.edits.Edit.{Edit}
use Rattle.ags_edits.specs.declared.edits_errors.EditsError.{EditsError}
use Rattle.ags_edits.specs.declared.edits_errors.EditsError.TheVariants as edits
use Rattle.ags_tags.specs.Tag.{Scaling}
use Rattle.ags_tags.specs.declared.scale_errors.ScaleError.{ScaleError}
use Rattle.ags_tags.specs.declared.scale_errors.ScaleError.TheVariants as scales
use Rattle.ags_times.specs.declared.budget_errors.BudgetError.{BudgetError}
use Rattle.ags_times.specs.declared.budget_errors.BudgetError.TheVariants as times
use Rattle.ags_program.specs.Files.{MachineFile, Source, Listing, Certificate, Script, Times, ScaleTags, EditList, RefusesCertificate as RefusesCert, RefusesScript as RefusesCommands, RefusesTimes as RefusesBounds, RefusesScales as RefusesTags, RefusesEdits as RefusesChanges}
use Rattle.ags_program.specs.Program.{program}
use Rattle.ags_program.specs.Text.{certificate_fault_line, edits_fault_line, scales_fault_line, script_fault_line, times_fault_line}
use Rattle.ags_program.specs.Views.{IsReadSource, assembly_of, line_of, status_of}

-- ---- the program's kinds read as the readings do

pub machine_as : ReadsAs machine_reading program MachineFile (λ machine. machine) refusal.Machine line_of status_of
machine_as = record {
  limit = refl;
  holds = λ bytes machine is. is;
  refuses = λ bytes error faulty. record { error = error; faulty = faulty; line_is = refl };
  status = λ error. refl;
}

pub source_as : (machine : Machine) → ReadsAs (source_reading machine) program (Source machine) assembly_of refusal.Source line_of status_of
source_as machine = record {
  limit = refl;
  holds = λ bytes source is. record { bytes_are = is.bytes_are; defines = is.read.defines };
  refuses = λ bytes error faulty. record { error = error; faulty = faulty; line_is = refl };
  status = λ error. refl;
}

pub listing_as : ReadsAs listing_reading program Listing (λ image. image) refusal.Listing line_of status_of
listing_as = record {
  limit = refl;
  holds = λ bytes image reads. reads;
  refuses = λ bytes error faulty. record { error = error; faulty = faulty; line_is = refl };
  status = λ error. refl;
}

pub certificate_as : (machine : Machine) → ReadsAs (certificate_reading machine) program (Certificate machine) (λ cert. cert) refusal.Certificate line_of status_of
certificate_as machine = record { limit = refl; holds = λ bytes cert is. is; refuses = refuses; status = λ error. refl }
  where
    refuses : (bytes : List ℕ) (error : CertError) → RefusesCertificate machine bytes error → RefusesCert machine bytes (certificate_fault_line error)
    refuses bytes (certificate.At number kind) faulty = record { number = number; kind = kind; faulty = faulty; line_is = refl }
    refuses bytes certificate.NoMemory faulty = absurd faulty

pub script_as : (machine : Machine) → ReadsAs (script_reading machine) program (Script machine) (λ script. script) refusal.Script line_of status_of
script_as machine = record { limit = refl; holds = λ bytes commands is. is; refuses = refuses; status = λ error. refl }
  where
    refuses : (bytes : List ℕ) (error : ScriptError) → RefusesScript machine bytes error → RefusesCommands machine bytes (script_fault_line error)
    refuses bytes (script.At number kind) faulty = record { number = number; kind = kind; faulty = faulty; line_is = refl }
    refuses bytes script.NoMemory faulty = absurd faulty

pub times_as : (rows : ℕ) → ReadsAs (times_reading rows) program (Times rows) (λ bounds. bounds) refusal.Times line_of status_of
times_as rows = record { limit = refl; holds = λ bytes bounds is. is; refuses = refuses; status = λ error. refl }
  where
    refuses : (bytes : List ℕ) (error : BudgetError) → RefusesTimes rows bytes error → RefusesBounds rows bytes (times_fault_line error)
    refuses bytes (times.At number kind) faulty = record { number = number; kind = kind; faulty = faulty; line_is = refl }
    refuses bytes times.NoMemory faulty = absurd faulty

pub scales_as : (machine : Machine) (rows : ℕ) → ReadsAs (scales_reading machine rows) program (ScaleTags machine rows) (λ scales. scales) refusal.Scales line_of status_of
scales_as machine rows = record { limit = refl; holds = λ bytes scales is. is; refuses = refuses; status = λ error. refl }
  where
    refuses : (bytes : List ℕ) (error : ScaleError) → RefusesScales machine rows bytes error → RefusesTags machine rows bytes (scales_fault_line error)
    refuses bytes (scales.At number kind) faulty = record { number = number; kind = kind; faulty = faulty; line_is = refl }
    refuses bytes scales.NoMemory faulty = absurd faulty

pub edits_as : ReadsAs edits_reading program EditList (λ edits. edits.items) refusal.Edits line_of status_of
edits_as = record { limit = refl; holds = λ bytes edits is. is.0; refuses = refuses; status = λ error. refl }
  where
    refuses : (bytes : List ℕ) (error : EditsError) → RefusesEdits bytes error → RefusesChanges bytes (edits_fault_line error)
    refuses bytes (edits.At number kind) faulty = record { number = number; kind = kind; faulty = faulty; line_is = refl }
    refuses bytes edits.NoMemory faulty = absurd faulty

-- ---- what was read is ready

pub source_ready : (machine : Machine) (told : ToldFile) (name : List ℕ) (result : Result SourceFile (Unloaded SourceError)) → ReadsFile (source_reading machine) told name result
    → IfOk (with_refusal refusal.Source result) IsReadSource
source_ready machine told name (Ok source) (bytes, agrees, short, is) = (machine.codes, rw is.bytes_are is.read)
source_ready machine told name (Err (Refused error)) reads = tt
source_ready machine told name (Err (Absent absent)) reads = tt
source_ready machine told name (Err (TooLong long most)) reads = tt
source_ready machine told name (Err ReadFault) reads = tt
source_ready machine told name (Err NoMemory) reads = tt

pub script_ready : (machine : Machine) (told : ToldFile) (name : List ℕ) (result : Result (List Command) (Unloaded ScriptError)) → ReadsFile (script_reading machine) told name result
    → IfOk (with_refusal refusal.Script result) (IsReadFor machine)
script_ready machine told name (Ok script) (bytes, agrees, short, is) = record { text = bytes; is_script = is }
script_ready machine told name (Err (Refused error)) reads = tt
script_ready machine told name (Err (Absent absent)) reads = tt
script_ready machine told name (Err (TooLong long most)) reads = tt
script_ready machine told name (Err ReadFault) reads = tt
script_ready machine told name (Err NoMemory) reads = tt

pub times_ready : (rows : ℕ) (told : ToldFile) (name : List ℕ) (result : Result (List ℕ) (Unloaded BudgetError)) → ReadsFile (times_reading rows) told name result
    → IfOk (with_refusal refusal.Times result) (λ bounds. length bounds ≡ rows)
times_ready rows told name (Ok bounds) (bytes, agrees, short, is) = is.are_bounds.count
times_ready rows told name (Err (Refused error)) reads = tt
times_ready rows told name (Err (Absent absent)) reads = tt
times_ready rows told name (Err (TooLong long most)) reads = tt
times_ready rows told name (Err ReadFault) reads = tt
times_ready rows told name (Err NoMemory) reads = tt

pub scales_ready : (machine : Machine) (rows : ℕ) (told : ToldFile) (name : List ℕ) (result : Result Scaling (Unloaded ScaleError))
    → ReadsFile (scales_reading machine rows) told name result → IfOk (with_refusal refusal.Scales result) (λ scales. length scales.rows ≡ rows)
scales_ready machine rows told name (Ok scales) (bytes, agrees, short, is) = is.are_scales.of_rows.count
scales_ready machine rows told name (Err (Refused error)) reads = tt
scales_ready machine rows told name (Err (Absent absent)) reads = tt
scales_ready machine rows told name (Err (TooLong long most)) reads = tt
scales_ready machine rows told name (Err ReadFault) reads = tt
scales_ready machine rows told name (Err NoMemory) reads = tt

pub edits_ready : (told : ToldFile) (name : List ℕ) (result : Result (Vec Edit) (Unloaded EditsError)) → ReadsFile edits_reading told name result
    → IfOk (with_refusal refusal.Edits result) (λ edits. All IsLawful edits.items)
edits_ready told name (Ok edits) (bytes, agrees, short, is) = is.1
edits_ready told name (Err (Refused error)) reads = tt
edits_ready told name (Err (Absent absent)) reads = tt
edits_ready told name (Err (TooLong long most)) reads = tt
edits_ready told name (Err ReadFault) reads = tt
edits_ready told name (Err NoMemory) reads = tt

-- what was read of bytes at hand is ready
pub taken_ready : (machine : Machine) (bytes : List ℕ) (result : Result SourceFile (Unloaded SourceError)) → ReadsBytes (source_reading machine) bytes result
    → IfOk (with_refusal refusal.Source result) IsReadSource
taken_ready machine bytes (Ok source) is = (machine.codes, rw is.bytes_are is.read)
taken_ready machine bytes (Err (Refused error)) reads = tt
taken_ready machine bytes (Err (Absent absent)) reads = tt
taken_ready machine bytes (Err (TooLong long most)) reads = tt
taken_ready machine bytes (Err ReadFault) reads = tt
taken_ready machine bytes (Err NoMemory) reads = tt

-- ---- the counts

-- a count that stayed is counted on
pub counted_on : (before mid now : ℕ) (counted : Bool) → HasCause before mid false → HasCause mid now counted → HasCause before now counted
counted_on before mid now counted stayed counts = record {
  stays = omega (arith, stayed.stays, counts.stays);
  cause = λ is. rose_since before mid now stayed.stays (counts.cause is);
  clean = λ is. counts.clean is ∙ stayed.clean refl;
}
