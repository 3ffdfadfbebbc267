-- What is loaded of one file, and then of another.
use Rattle.std.proofs.Common.{◌≡◌, ℕ, List, Option, Result, Ok, Err, refl, subst}
use Rattle.ags_cert.specs.Cert.{Stated}
use Rattle.ags_load.specs.Workload.{source_text, cert_text}
use Rattle.ags_plan.specs.Loading.{Loads, LoadsFile, TakesBytes}
use Rattle.ags_plan.specs.Plan.{Plan, End, Do, Read, Take}
use Rattle.ags_plan.proofs.LoadingLemmas.{loads_on, loads_stop, takes_on, takes_stop}
use Rattle.ags_plan.specs.Walk.{Told}
use Rattle.ags_ports.specs.declared.machines.Machine.{Machine}
use Rattle.ags_ports.specs.Machine.{standard_machine}
use Rattle.ags_program.specs.Files.{Kind, Source, Certificate, Assembly, Pair, Value}
use Rattle.ags_asked.specs.Loaded.{LoadsPair}
use Rattle.ags_program.specs.Program.{program, workload_certificate, workload_plan, workload_source}
use Rattle.ags_program.specs.Work.{Work, JudgePair, CountsInstead}

-- ---- what is told

-- what is loaded from a shelf that tells what it told before is loaded as from that
pub loads_as_before : (told now : Told) (kind : Kind) (name : List ℕ) (result : Result (Value kind) (Option (End program))) → now ≡ told → LoadsFile program now kind name result
    → LoadsFile program told kind name result
loads_as_before told now kind name result same loads = subst (λ (t : Told). LoadsFile program t kind name result) same loads

-- ---- a file, and then one of another kind

module _ (told now : Told) (former : Kind) (one : List ℕ) (latter : Kind) (other : List ℕ) (done : Value former → Value latter → Work) (held : Value former)
    (first : LoadsFile program told former one (Ok held)) (same : now ≡ told) where
  -- both, one after the other
  abbrev pub both : Plan program
  both = Read former one (λ a. Read latter other (λ b. Do (done a b)))

  -- the second file is why they aren't loaded
  pub second_stops : (why : Option (End program)) → LoadsFile program now latter other (Err why) → Loads program told both (Err why)
  second_stops why loads =
      loads_on program told former one (λ a. Read latter other (λ b. Do (done a b))) held (Err why) first
      (loads_stop program told latter other (λ b. Do (done held b)) why (loads_as_before told now latter other (Err why) same loads))

  -- both are loaded
  pub both_load : (value : Value latter) → LoadsFile program now latter other (Ok value) → Loads program told both (Ok (done held value))
  both_load value loads =
      loads_on program told former one (λ a. Read latter other (λ b. Do (done a b))) held (Ok (done held value)) first
      (loads_on program told latter other (λ b. Do (done held b)) value (Ok (done held value)) (loads_as_before told now latter other (Ok value) same loads) refl)

-- ---- a source and a certificate

module _ (told now : Told) (machine : Machine) (source certificate : List ℕ) where
  -- what is read after the source
  abbrev certificate_plan : (behind : Pair → Plan program) → Assembly → Plan program
  certificate_plan behind assembly = Read (Certificate machine) certificate (λ cert. behind (record { machine = machine; assembly = assembly; cert = cert }))

  -- the source is why they aren't loaded
  pub source_stops : (why : Option (End program)) → LoadsFile program told (Source machine) source (Err why) → LoadsPair told machine source certificate (Err why)
  source_stops why stops = λ behind. loads_stop program told (Source machine) source (certificate_plan behind) why stops

  module _ (assembly : Assembly) (first : LoadsFile program told (Source machine) source (Ok assembly)) (same : now ≡ told) where
    -- the certificate is
    pub certificate_stops : (why : Option (End program)) → LoadsFile program now (Certificate machine) certificate (Err why) → LoadsPair told machine source certificate (Err why)
    certificate_stops why stops = λ behind.
        loads_on program told (Source machine) source (certificate_plan behind) assembly (Err why) first
        (loads_stop program told (Certificate machine) certificate (λ cert. behind (record { machine = machine; assembly = assembly; cert = cert })) why
        (loads_as_before told now (Certificate machine) certificate (Err why) same stops))

    -- both are loaded
    pub pair_loads : (cert : Value (Certificate machine)) → LoadsFile program now (Certificate machine) certificate (Ok cert)
        → LoadsPair told machine source certificate (Ok (record { machine = machine; assembly = assembly; cert = cert }))
    pair_loads cert loads = λ behind result later.
        loads_on program told (Source machine) source (certificate_plan behind) assembly result first
        (loads_on program told (Certificate machine) certificate (λ c. behind (record { machine = machine; assembly = assembly; cert = c })) cert result
        (loads_as_before told now (Certificate machine) certificate (Ok cert) same loads) later)

-- ---- a workload

module _ (told : Told) (size : ℕ) where
  -- the work of a workload whose texts were read
  abbrev workload_work : Assembly → Stated → Work
  workload_work assembly cert = JudgePair (record { machine = standard_machine; assembly = assembly; cert = cert }) (CountsInstead size)

  -- what is read after the source
  abbrev certificate_of_workload : Assembly → Plan program
  certificate_of_workload assembly = Take (Certificate standard_machine) workload_certificate (cert_text size) (λ cert. Do (workload_work assembly cert))

  -- the source is why it isn't loaded
  pub workload_stops : (why : Option (End program)) → TakesBytes program told (Source standard_machine) workload_source (source_text size) (Err why)
      → Loads program told (workload_plan size) (Err why)
  workload_stops why stops = takes_stop program told (Source standard_machine) workload_source (source_text size) certificate_of_workload why stops

  module _ (assembly : Assembly) (first : TakesBytes program told (Source standard_machine) workload_source (source_text size) (Ok assembly)) where
    -- the certificate is
    pub workload_stops_later : (why : Option (End program)) → TakesBytes program told (Certificate standard_machine) workload_certificate (cert_text size) (Err why)
        → Loads program told (workload_plan size) (Err why)
    workload_stops_later why stops =
        takes_on program told (Source standard_machine) workload_source (source_text size) certificate_of_workload assembly (Err why) first
        (takes_stop program told (Certificate standard_machine) workload_certificate (cert_text size) (λ cert. Do (workload_work assembly cert)) why stops)

    -- both are read
    pub workload_loads : (cert : Stated) → TakesBytes program told (Certificate standard_machine) workload_certificate (cert_text size) (Ok cert)
        → Loads program told (workload_plan size) (Ok (workload_work assembly cert))
    workload_loads cert takes =
        takes_on program told (Source standard_machine) workload_source (source_text size) certificate_of_workload assembly (Ok (workload_work assembly cert)) first
        (takes_on program told (Certificate standard_machine) workload_certificate (cert_text size) (λ c. Do (workload_work assembly c)) cert (Ok (workload_work assembly cert)) takes refl)
