-- That the bench's definition is lawful, whatever devices are handed in: its files mean one thing each, and its works make one text
-- each.
use Rattle.std.specs.Prelude.{◌≡◌, ◌≢◌, ◌⊎◌, ℕ, ◌++◌, List, Option, Some, None, Result, Ok, Err}
use Rattle.std.proofs.Common.{refl, sym, ap, subst, ◌∙◌, inl, inr}
use Rattle.ags_asm.specs.Source.{CardWords, Defines, placed_words}
use Rattle.ags_asm.proofs.ApartLemmas.{each_place_once}
use Rattle.ags_asm.proofs.MeaningLemmas as source
use Rattle.ags_asm.proofs.MemoryLemmas.{words_of_memory}
use Rattle.ags_check.proofs.AnswerLemmas.{some_verdict}
use Rattle.ags_drive.specs.BenchRun.{Met, Nothing}
use Rattle.ags_drive.proofs.OneBenchRunLemmas.{some_bench_run, one_bench_run}
use Rattle.ags_benchscript.specs.declared.commands.BenchCommand.{BenchCommand}
use Rattle.ags_benchscript.proofs.ScriptLemmas as script
use Rattle.ags_cert.specs.Cert.{Stated, certificate_of}
use Rattle.ags_certread.proofs.TextLaws as cert
use Rattle.ags_certtext.specs.declared.cert_error.CertKind.{CertKind}
use Rattle.ags_certtext.specs.declared.cert_error.CertError.TheVariants as certificate
use Rattle.ags_device.specs.Record.{DeviceRecord}
use Rattle.ags_domain.specs.MeaningLaws.{value_lawful}
use Rattle.ags_domain.specs.Value.{value_meaning}
use Rattle.ags_domain.specs.declared.values.Value.{Value as Words}
use Rattle.ags_image.specs.Image.{IsImageOf}
use Rattle.ags_image.proofs.ImageLaws.{one_image, one_word_a_place, some_image}
use Rattle.ags_isa.specs.Code.{AreCodes}
use Rattle.ags_machfile.specs.declared.mach_error.MachError.{MachError}
use Rattle.ags_machfile.specs.MachineFile.{machine_of}
use Rattle.ags_machfile.proofs.FileLemmas.{machine_of-IsMachine}
use Rattle.ags_places.specs.declared.source_error.SourceError.{SourceError}
use Rattle.ags_plan.specs.declared.causes.Cause.TheVariants as cause
use Rattle.ags_plan.specs.Lawful.{AreReadable, AreDoable, AreApart, IsLawful}
use Rattle.ags_plan.specs.Plan.{WorkAt}
use Rattle.ags_plan.specs.Walk.{Told, Agrees, EndsAt, LeadsTo}
use Rattle.ags_plan.proofs.WorkLemmas.{way_to_work}
use Rattle.ags_ports.specs.declared.machines.Machine.{Machine}
use Rattle.ags_ports.specs.Machine.{IsMachine, standard_machine}
use Rattle.ags_ports.proofs.MachineLemmas.{IsMachine-standard}
use Rattle.ags_program.specs.Files.{Assembly, HoldsSource}
use Rattle.ags_program.specs.Text.{words_line, certificate_fault_line, fault_line, machine_fault_line, script_fault_line, verdict_line}
use Rattle.ags_script.specs.declared.script_errors.ScriptKind.{ScriptKind}
use Rattle.ags_script.specs.declared.script_errors.ScriptError.TheVariants.{At}
use Rattle.ags_verdict.specs.Verdict.{IsVerdict}
use Rattle.ags_verdict.specs.declared.verdicts.Verdict.{Verdict}
use Rattle.ags_verdict.specs.declared.verdicts.Verdict.TheVariants.{Certified, Refused}
use Rattle.ags_verdict.proofs.VerdictLemmas.{verdict_one}
use Rattle.ags_program.specs.declared.status.Status.{Status}
use Rattle.ags_program.specs.declared.status.Status.TheVariants.{Done, No, BadWords, LongFile}
use Rattle.ags_bench.specs.Files.{Kind, MachineFile, Source, Certificate, Script, Value, Holds, Refuses, refused_status}
use Rattle.ags_bench.specs.Program.{program, files_plan, plan_on, asked_plan, plan_of}
use Rattle.ags_program.specs.Status.{cause_of}
use Rattle.ags_benchjudged.specs.Met.{met_line, met_status}
use Rattle.ags_bench.specs.Words.{Asked, asked_of}
use Rattle.ags_bench.specs.Work.{Work, NoForm, DrivePair, ComesOfVerdict, Makes}

-- ---- files

-- a machine file's bytes give a machine, or fail a test
machine_or_fault : (read : Result Machine MachError) → ((machine : Machine) × (read ≡ Ok machine)) ⊎ ((error : MachError) × (read ≡ Err error))
machine_or_fault (Ok machine) = inl (machine, refl)
machine_or_fault (Err error) = inr (error, refl)

-- a file of a kind holds something, or is refused
some_reading : (kind : Kind) (bytes : List ℕ) → ((value : Value kind) × Holds kind bytes value) ⊎ ((line : List ℕ) × Refuses kind bytes line)
some_reading MachineFile bytes = elim (machine_or_fault (machine_of bytes)) [
  | inl (machine, is) ↦ inl (machine, is)
  | inr (error, faulty) ↦ inr (machine_fault_line error, record { error = error; faulty = faulty; line_is = refl })
]
some_reading (Source machine) bytes = elim (source.each_means machine.codes bytes) [
  | inl (defined, defines) ↦ inl (record { bytes = bytes; defined = defined }, record { bytes_are = refl; defines = defines })
  | inr (error, faulty) ↦ inr (fault_line error, record { error = error; faulty = faulty; line_is = refl })
]
some_reading (Certificate machine) bytes = elim (cert.each_text_means machine.ports bytes) [
  | inl (stated, is) ↦ inl (stated, is)
  | inr (number, kind, faulty) ↦ inr (certificate_fault_line (certificate.At number kind), record { number = number; kind = kind; faulty = faulty; line_is = refl })
]
some_reading (Script machine) bytes = elim (script.script_or_faulty machine bytes) [
  | inl (lines, is) ↦ inl (lines, is)
  | inr (number, kind, faulty) ↦ inr (script_fault_line (At number kind), record { number = number; kind = kind; faulty = faulty; line_is = refl })
]

-- what was read of a source is one thing
one_assembly : (order_codes bytes : List ℕ) (one other : Assembly) → HoldsSource order_codes bytes one → HoldsSource order_codes bytes other → one ≡ other
one_assembly order_codes bytes one other first second =
    ap (λ (b : List ℕ). record { bytes = b; defined = one.defined }) (first.bytes_are ∙ sym second.bytes_are)
    ∙ ap (λ (d : CardWords). record { bytes = other.bytes; defined = d }) (source.one_meaning order_codes bytes one.defined other.defined first.defines second.defines)

one_reading : (kind : Kind) (bytes : List ℕ) (one other : Value kind) → Holds kind bytes one → Holds kind bytes other → one ≡ other
one_reading MachineFile bytes one other first second = cc
one_reading (Source machine) bytes one other first second = one_assembly machine.codes bytes one other first second
one_reading (Certificate machine) bytes one other first second = cert.one_cert_of machine.ports bytes one other first second
one_reading (Script machine) bytes one other first second = script.one_script machine bytes one other first second

-- the lines of two faults that are one
same_line : (line other : ℕ) (kind another : ScriptKind) → line ≡ other → kind ≡ another → script_fault_line (At line kind) ≡ script_fault_line (At other another)
same_line line other kind another lines kinds = ap (λ (n : ℕ). script_fault_line (At n kind)) lines ∙ ap (λ (k : ScriptKind). script_fault_line (At other k)) kinds

same_certificate_line : (line other : ℕ) (kind another : CertKind) → line ≡ other → kind ≡ another
    → certificate_fault_line (certificate.At line kind) ≡ certificate_fault_line (certificate.At other another)
same_certificate_line line other kind another lines kinds =
    ap (λ (n : ℕ). certificate_fault_line (certificate.At n kind)) lines ∙ ap (λ (k : CertKind). certificate_fault_line (certificate.At other k)) kinds

one_refusal : (kind : Kind) (bytes line other : List ℕ) → Refuses kind bytes line → Refuses kind bytes other → line ≡ other
one_refusal MachineFile bytes line other first second =
    let same : first.error ≡ second.error = cc in
    first.line_is ∙ ap (λ (e : MachError). machine_fault_line e) same ∙ sym second.line_is
one_refusal (Source machine) bytes line other first second =
    first.line_is ∙ ap (λ (e : SourceError). fault_line e) (source.one_fault bytes first.error second.error first.faulty second.faulty) ∙ sym second.line_is
one_refusal (Certificate machine) bytes line other first second =
    let same = cert.one_fault_of machine.ports bytes first.number second.number first.kind second.kind first.faulty second.faulty in
    first.line_is ∙ same_certificate_line first.number second.number first.kind second.kind same.0 same.1 ∙ sym second.line_is
one_refusal (Script machine) bytes line other first second =
    let same = script.one_fault machine bytes first.number second.number first.kind second.kind first.faulty second.faulty in
    first.line_is ∙ same_line first.number second.number first.kind second.kind same.0 same.1 ∙ sym second.line_is

not_both : (kind : Kind) (bytes line : List ℕ) (value : Value kind) → Holds kind bytes value → Refuses kind bytes line → ⊥
not_both MachineFile bytes line machine holds refuses = let faulty = refuses.faulty in absurd cc
not_both (Source machine) bytes line assembly holds refuses = source.not_both machine.codes bytes assembly.defined refuses.error holds.defines refuses.faulty
not_both (Certificate machine) bytes line stated is refuses = cert.never_both machine.ports bytes stated refuses.number refuses.kind is refuses.faulty
not_both (Script machine) bytes line lines is refuses = script.not_faulty machine bytes lines refuses.number refuses.kind is refuses.faulty

are_readable : (devices : List DeviceRecord) → AreReadable (program devices)
are_readable devices = record {
  some = λ kind bytes short. some_reading kind bytes;
  one_value = λ kind bytes one other short first second. one_reading kind bytes one other first second;
  one_line = one_refusal;
  not_both = not_both;
}

-- ---- works

-- the words are a source's, by some table of codes
abbrev pub AreWordsOfSource : CardWords → Type 0
AreWordsOfSource defined = (order_codes : List ℕ) × AreCodes order_codes × ((bytes : List ℕ) × Defines order_codes bytes defined)

-- what is so of a work in which a walk ends: its machine is one, and its words are a source's
abbrev pub IsAskedFor : Work → Type 0
IsAskedFor NoForm = Unit {0}
IsAskedFor (DrivePair pair lines) = IsMachine pair.machine × AreWordsOfSource pair.assembly.defined

module _ (devices : List DeviceRecord) (told : Told) where
  asked_on_way : (asked : Asked) (machine : Machine) (work : Work) → IsMachine machine → LeadsTo (program devices) Agrees told (files_plan devices asked machine) work
      → IsAskedFor work × (work ≢ NoForm)
  asked_on_way asked machine work is (assembly, (bytes, agrees, holds), (stated, seen, (lines, found, same))) =
      (subst IsAskedFor same (is, (machine.codes, is.codes, (bytes, holds.holds.defines))), λ none. absurd cc)

  asked_by_line : (asked : Asked) (machine : Option (List ℕ)) (work : Work) → LeadsTo (program devices) Agrees told (plan_on devices machine (files_plan devices asked)) work
      → IsAskedFor work × (work ≢ NoForm)
  asked_by_line asked None work leads = asked_on_way asked standard_machine work IsMachine-standard leads
  asked_by_line asked (Some name) work (machine, (bytes, agrees, holds), leads) = asked_on_way asked machine work (machine_of-IsMachine bytes machine holds.holds) leads

  -- nothing that is asked for comes to the work that says that the words are no form
  pub comes_to_no_form : (asked : Asked) → EndsAt (program devices) Agrees told (asked_plan devices (Some asked)) (WorkAt NoForm) → ⊥
  comes_to_no_form asked ends =
      (asked_by_line asked asked.machine NoForm (way_to_work (program devices) Agrees told (asked_plan devices (Some asked)) NoForm ends)).1 refl

  asked_by : (asked : Option Asked) (work : Work) → EndsAt (program devices) Agrees told (asked_plan devices asked) (WorkAt work) → IsAskedFor work
  asked_by None work end = let same : work ≡ NoForm = cc in subst IsAskedFor (sym same) tt
  asked_by (Some asked) work ends = (asked_by_line asked asked.machine work (way_to_work (program devices) Agrees told (asked_plan devices (Some asked)) work ends)).0

-- words of a source have an image
some_image_of : (defined : CardWords) → AreWordsOfSource defined → (image : List (Option ℕ)) × IsImageOf (placed_words defined) image
some_image_of defined (order_codes, are, (bytes, defines)) =
    some_image (placed_words defined) (words_of_memory order_codes bytes defined are defines) (one_word_a_place (placed_words defined) (each_place_once order_codes bytes defined defines))

module _ (machine : Machine) (image : List (Option ℕ)) (stated : Stated) (devices : List DeviceRecord) (lines : List (ℕ × BenchCommand)) (is : IsMachine machine) where
  -- something comes of each verdict
  pub some_coming : (verdict : Verdict Words) → (text : List ℕ) × (status : Status) × ComesOfVerdict machine image stated devices lines verdict text status
  some_coming (Certified rows cases) =
      let (events, shown, now, met, runs) = some_bench_run machine image (certificate_of stated) devices lines is in (
        verdict_line (Certified rows cases) ++ (shown ++ met_line met),
        met_status met,
        record { events = events; shown = shown; now = now; met = met; runs = runs; text_is = refl; status_is = refl },
      )
  some_coming (Refused refusal) = (verdict_line (Refused refusal), No, (refl, refl))

  -- and that is one text and one status
  one_coming : (verdict : Verdict Words) (text other : List ℕ) (status ended : Status) → ComesOfVerdict machine image stated devices lines verdict text status
      → ComesOfVerdict machine image stated devices lines verdict other ended → (text ≡ other) × (status ≡ ended)
  one_coming (Certified rows cases) text other status ended first second =
      let same = one_bench_run machine image (certificate_of stated) devices lines is first.events second.events first.shown second.shown first.now second.now first.met second.met first.runs second.runs in (
        first.text_is
            ∙ ap (λ (s : List ℕ). verdict_line (Certified rows cases) ++ (s ++ met_line first.met)) same.1
            ∙ ap (λ (m : Met). verdict_line (Certified rows cases) ++ (second.shown ++ met_line m)) same.3
            ∙ sym second.text_is,
        first.status_is ∙ ap met_status same.3 ∙ sym second.status_is,
      )
  one_coming (Refused refusal) text other status ended first second = (first.0 ∙ sym second.0, first.1 ∙ sym second.1)

some_making : (devices : List DeviceRecord) (work : Work) → IsAskedFor work → (text : List ℕ) × (status : Status) × Makes devices work text status
some_making devices NoForm asked = (words_line, BadWords, (refl, refl))
some_making devices (DrivePair pair lines) (is, are) =
    let (image, image_is) = some_image_of pair.assembly.defined are in
    let (verdict, is_verdict) = some_verdict pair.machine image (certificate_of pair.cert) is image_is.is_image in
    let (text, status, comes) = some_coming pair.machine image pair.cert devices lines is verdict in
    (text, status, record { image = image; image_is = image_is; verdict = verdict; is_verdict = is_verdict; comes = comes })

one_making : (devices : List DeviceRecord) (work : Work) (text other : List ℕ) (status ended : Status) → IsAskedFor work → Makes devices work text status → Makes devices work other ended
    → (text ≡ other) × (status ≡ ended)
one_making devices NoForm text other status ended asked first second = (first.0 ∙ sym second.0, first.1 ∙ sym second.1)
one_making devices (DrivePair pair lines) text other status ended asked first second =
    let same = one_image (placed_words pair.assembly.defined) first.image second.image first.image_is second.image_is in
    let judged : IsVerdict value_meaning pair.machine first.image (certificate_of pair.cert) second.verdict =
    subst (λ (i : List (Option ℕ)). IsVerdict value_meaning pair.machine i (certificate_of pair.cert) second.verdict) (sym same) second.is_verdict in
    let one = verdict_one value_meaning pair.machine first.image (certificate_of pair.cert) value_lawful asked.0 first.verdict second.verdict first.is_verdict judged in
    let here : ComesOfVerdict pair.machine first.image pair.cert devices lines second.verdict other ended =
    subst (λ (i : List (Option ℕ)). ComesOfVerdict pair.machine i pair.cert devices lines second.verdict other ended) (sym same) second.comes in
    let comes : ComesOfVerdict pair.machine first.image pair.cert devices lines first.verdict other ended =
    subst (λ (v : Verdict Words). ComesOfVerdict pair.machine first.image pair.cert devices lines v other ended) (sym one) here in
    one_coming pair.machine first.image pair.cert devices lines asked.0 first.verdict text other status ended first.comes comes

are_doable : (devices : List DeviceRecord) → AreDoable (program devices) (plan_of devices)
are_doable devices = record {
  some = λ told words work ends. some_making devices work (asked_by devices told (asked_of words) work ends);
  one = λ told words work text other status ended ends first second. one_making devices work text other status ended (asked_by devices told (asked_of words) work ends) first second;
}

-- ---- statuses

-- the statuses that works come with
unfoldable pub IsWorkStatus : Status → Type 0
IsWorkStatus Done = Unit {0}
IsWorkStatus No = Unit {0}
IsWorkStatus BadWords = Unit {0}
IsWorkStatus _ = ⊥

met_work : (met : Met) → IsWorkStatus (met_status met)
unfolding IsWorkStatus
met_work Nothing = tt
met_work _ = tt

coming_work : (machine : Machine) (image : List (Option ℕ)) (stated : Stated) (devices : List DeviceRecord) (lines : List (ℕ × BenchCommand)) (verdict : Verdict Words) (text : List ℕ) (status : Status)
    → ComesOfVerdict machine image stated devices lines verdict text status → IsWorkStatus status
unfolding IsWorkStatus
coming_work machine image stated devices lines (Certified rows cases) text status comes = subst IsWorkStatus (sym comes.status_is) (met_work comes.met)
coming_work machine image stated devices lines (Refused refusal) text status comes = subst IsWorkStatus (sym comes.1) tt

made_status : (devices : List DeviceRecord) (work : Work) (text : List ℕ) (status : Status) → Makes devices work text status → IsWorkStatus status
unfolding IsWorkStatus
made_status devices NoForm text status made = subst IsWorkStatus (sym made.1) tt
made_status devices (DrivePair pair lines) text status made = coming_work pair.machine made.image pair.cert devices lines made.verdict text status made.comes

work_status_of_content : (status : Status) → IsWorkStatus status → cause_of status ≡ cause.Content
unfolding IsWorkStatus
work_status_of_content Done is = refl
work_status_of_content No is = refl
work_status_of_content BadWords is = refl
work_status_of_content _ is = absurd is

not_long_work : IsWorkStatus LongFile → ⊥
unfolding IsWorkStatus
not_long_work is = is

pub not_refused_work : (kind : Kind) → IsWorkStatus (refused_status kind) → ⊥
unfolding IsWorkStatus
not_refused_work MachineFile is = is
not_refused_work (Source machine) is = is
not_refused_work (Certificate machine) is = is
not_refused_work (Script machine) is = is

refused_of_content : (kind : Kind) → cause_of (refused_status kind) ≡ cause.Content
refused_of_content MachineFile = refl
refused_of_content (Source machine) = refl
refused_of_content (Certificate machine) = refl
refused_of_content (Script machine) = refl

refused_not_long : (kind : Kind) → refused_status kind ≢ LongFile
refused_not_long MachineFile = λ is. absurd cc
refused_not_long (Source machine) = λ is. absurd cc
refused_not_long (Certificate machine) = λ is. absurd cc
refused_not_long (Script machine) = λ is. absurd cc

are_apart : (devices : List DeviceRecord) → AreApart (program devices)
are_apart devices = record {
  absent = refl;
  long = refl;
  read_fault = refl;
  write_fault = refl;
  memory = refl;
  refused = refused_of_content;
  refused_not_long = refused_not_long;
  made = λ work text status made. work_status_of_content status (made_status devices work text status made);
  made_not_long = λ work text made. not_long_work (made_status devices work text LongFile made);
  made_not_refused = λ work text kind made. not_refused_work kind (made_status devices work text (refused_status kind) made);
}

pub lawful_program : (devices : List DeviceRecord) → IsLawful (program devices) (plan_of devices)
lawful_program devices = record { readable = are_readable devices; doable = are_doable devices; apart = are_apart devices }
