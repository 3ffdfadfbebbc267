-- What the loaders of files answer.
use Rattle.std.proofs.Common.{◌≡◌, ℕ, List, [], Option, Result, Ok, Err, refl, subst}
use Rattle.std.specs.Prelude.{IfOk}
use Rattle.ags_benchscript.specs.declared.commands.BenchCommand.{BenchCommand}
use Rattle.ags_benchscript.specs.Script.{IsReadFor}
use Rattle.ags_cert.specs.Cert.{Stated}
use Rattle.ags_certtext.specs.declared.cert_error.CertError.{CertError}
use Rattle.ags_certtext.specs.declared.cert_error.CertError.TheVariants as certificate
use Rattle.ags_files.specs.declared.sources.SourceFile.{SourceFile}
use Rattle.ags_files.specs.Reading.{ReadsAs, ReadsFile, RefusesCertificate, machine_reading, source_reading, certificate_reading, with_refusal}
use Rattle.ags_outside.specs.ToldFile.{ToldFile}
use Rattle.ags_places.specs.declared.source_error.SourceError.{SourceError}
use Rattle.ags_plan.specs.declared.unloaded.Unloaded.{Unloaded}
use Rattle.ags_plan.specs.declared.unloaded.Unloaded.TheVariants.{Absent, TooLong, Refused, ReadFault, NoMemory}
use Rattle.ags_plan.specs.Loading.{Loads, LoadsFile}
use Rattle.ags_plan.specs.Plan.{Plan, End, Do, Read}
use Rattle.ags_plan.proofs.LoadingLemmas.{loads_on, loads_stop}
use Rattle.ags_plan.specs.Walk.{Told}
use Rattle.ags_ports.specs.declared.machines.Machine.{Machine}
use Rattle.ags_program.specs.Files.{Assembly, Pair, RefusesCertificate as RefusesCert}
use Rattle.ags_program.specs.Text.{certificate_fault_line, script_fault_line}
use Rattle.ags_program.specs.Views.{IsReadSource, assembly_of}
use Rattle.ags_script.specs.declared.script_errors.ScriptError.{ScriptError}
use Rattle.ags_script.specs.declared.script_errors.ScriptError.TheVariants as script
use Rattle.ags_bench.specs.declared.refusal.Refusal.TheVariants as refusal
use Rattle.ags_bench.specs.Files.{Kind, MachineFile, Source, Certificate, Script, Value, RefusesScript}
use Rattle.ags_bench.specs.Loaded.{LoadsPair, script_plan}
use Rattle.ags_bench.specs.Program.{program}
use Rattle.ags_bench.specs.Scripts.{RefusesText, script_reading}
use Rattle.ags_bench.specs.Views.{line_of, status_of}
use Rattle.ags_bench.specs.Work.{DrivePair}

-- ---- the bench's kinds read as the readings do

pub machine_as : ReadsAs machine_reading (program []) MachineFile (λ machine. machine) refusal.Machine line_of status_of
machine_as = record {
  limit = refl;
  holds = λ bytes machine is. is;
  refuses = λ bytes error faulty. record { error = error; faulty = faulty; line_is = refl };
  status = λ error. refl;
}

pub source_as : (machine : Machine) → ReadsAs (source_reading machine) (program []) (Source machine) assembly_of refusal.Source line_of status_of
source_as machine = record {
  limit = refl;
  holds = λ bytes source is. record { bytes_are = is.bytes_are; defines = is.read.defines };
  refuses = λ bytes error faulty. record { error = error; faulty = faulty; line_is = refl };
  status = λ error. refl;
}

pub certificate_as : (machine : Machine) → ReadsAs (certificate_reading machine) (program []) (Certificate machine) (λ cert. cert) refusal.Certificate line_of status_of
certificate_as machine = record { limit = refl; holds = λ bytes cert is. is; refuses = refuses; status = λ error. refl }
  where
    refuses : (bytes : List ℕ) (error : CertError) → RefusesCertificate machine bytes error → RefusesCert machine bytes (certificate_fault_line error)
    refuses bytes (certificate.At number kind) faulty = record { number = number; kind = kind; faulty = faulty; line_is = refl }
    refuses bytes certificate.NoMemory faulty = absurd faulty

pub script_as : (machine : Machine) → ReadsAs (script_reading machine) (program []) (Script machine) (λ script. script) refusal.Script line_of status_of
script_as machine = record { limit = refl; holds = λ bytes lines is. is; refuses = refuses; status = λ error. refl }
  where
    refuses : (bytes : List ℕ) (error : ScriptError) → RefusesText machine bytes error → RefusesScript machine bytes (script_fault_line error)
    refuses bytes (script.At number kind) faulty = record { number = number; kind = kind; faulty = faulty; line_is = refl }
    refuses bytes script.NoMemory faulty = absurd faulty

-- ---- what was read is ready

pub source_ready : (machine : Machine) (told : ToldFile) (name : List ℕ) (result : Result SourceFile (Unloaded SourceError)) → ReadsFile (source_reading machine) told name result
    → IfOk (with_refusal refusal.Source result) IsReadSource
source_ready machine told name (Ok source) (bytes, agrees, short, is) = (machine.codes, rw is.bytes_are is.read)
source_ready machine told name (Err (Refused error)) reads = tt
source_ready machine told name (Err (Absent absent)) reads = tt
source_ready machine told name (Err (TooLong long most)) reads = tt
source_ready machine told name (Err ReadFault) reads = tt
source_ready machine told name (Err NoMemory) reads = tt

pub script_ready : (machine : Machine) (told : ToldFile) (name : List ℕ) (result : Result (List (ℕ × BenchCommand)) (Unloaded ScriptError)) → ReadsFile (script_reading machine) told name result
    → IfOk (with_refusal refusal.Script result) (IsReadFor machine)
script_ready machine told name (Ok script) (bytes, agrees, short, is) = record { text = bytes; is_script = is }
script_ready machine told name (Err (Refused error)) reads = tt
script_ready machine told name (Err (Absent absent)) reads = tt
script_ready machine told name (Err (TooLong long most)) reads = tt
script_ready machine told name (Err ReadFault) reads = tt
script_ready machine told name (Err NoMemory) reads = tt

-- ---- a source and a certificate, one after the other

-- what is loaded from a shelf that tells what it told before is loaded as from that
loads_as_before : (told now : Told) (kind : Kind) (name : List ℕ) (result : Result (Value kind) (Option (End (program [])))) → now ≡ told → LoadsFile (program []) now kind name result
    → LoadsFile (program []) told kind name result
loads_as_before told now kind name result same loads = subst (λ (t : Told). LoadsFile (program []) t kind name result) same loads

module _ (told now : Told) (machine : Machine) (source certificate : List ℕ) where
  -- what is read after the source
  abbrev certificate_plan : (behind : Pair → Plan (program [])) → Assembly → Plan (program [])
  certificate_plan behind assembly = Read (Certificate machine) certificate (λ cert. behind (record { machine = machine; assembly = assembly; cert = cert }))

  -- the source isn't loaded
  pub source_stops : (why : Option (End (program []))) → LoadsFile (program []) told (Source machine) source (Err why) → LoadsPair told machine source certificate (Err why)
  source_stops why stops = λ behind. loads_stop (program []) told (Source machine) source (certificate_plan behind) why stops

  module _ (assembly : Assembly) (first : LoadsFile (program []) told (Source machine) source (Ok assembly)) (same : now ≡ told) where
    -- it is, and the certificate isn't
    pub certificate_stops : (why : Option (End (program []))) → LoadsFile (program []) now (Certificate machine) certificate (Err why) → LoadsPair told machine source certificate (Err why)
    certificate_stops why stops = λ behind.
        loads_on (program []) told (Source machine) source (certificate_plan behind) assembly (Err why) first
        (loads_stop (program []) told (Certificate machine) certificate (λ cert. behind (record { machine = machine; assembly = assembly; cert = cert })) why
        (loads_as_before told now (Certificate machine) certificate (Err why) same stops))

    -- both are
    pub pair_loads : (cert : Stated) → LoadsFile (program []) now (Certificate machine) certificate (Ok cert)
        → LoadsPair told machine source certificate (Ok (record { machine = machine; assembly = assembly; cert = cert }))
    pair_loads cert loads = λ behind result later.
        loads_on (program []) told (Source machine) source (certificate_plan behind) assembly result first
        (loads_on (program []) told (Certificate machine) certificate (λ c. behind (record { machine = machine; assembly = assembly; cert = c })) cert result
        (loads_as_before told now (Certificate machine) certificate (Ok cert) same loads) later)

-- ---- and the script behind them

module _ (told now : Told) (pair : Pair) (script : List ℕ) (same : now ≡ told) where
  -- it isn't loaded
  pub script_stops : (why : Option (End (program []))) → LoadsFile (program []) now (Script pair.machine) script (Err why) → Loads (program []) told (script_plan script pair) (Err why)
  script_stops why stops =
      loads_stop (program []) told (Script pair.machine) script (λ lines. Do (DrivePair pair lines)) why (loads_as_before told now (Script pair.machine) script (Err why) same stops)

  -- it is
  pub script_loads : (lines : List (ℕ × BenchCommand)) → LoadsFile (program []) now (Script pair.machine) script (Ok lines)
      → Loads (program []) told (script_plan script pair) (Ok (DrivePair pair lines))
  script_loads lines loads =
      loads_on (program []) told (Script pair.machine) script (λ l. Do (DrivePair pair l)) lines (Ok (DrivePair pair lines))
      (loads_as_before told now (Script pair.machine) script (Ok lines) same loads) refl
