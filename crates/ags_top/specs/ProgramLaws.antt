-- That the program's definition is lawful: its files mean one thing each, and its works make one text each.
use Rattle.std.specs.Prelude.{◌≡◌, ◌≢◌, ◌⊎◌, ℕ, All, List, [], ◌∷◌, ◌++◌, length, Option, Some, None, Result, Ok, Err}
use Rattle.std.proofs.Common.{refl, sym, ap, subst, ◌∙◌, inl, inr}
use Rattle.ags_command.specs.declared.source_texts.SourceText.{SourceText}
use Rattle.ags_command.specs.declared.source_texts.SourceText.TheVariants as what
use Rattle.ags_command.specs.Command.{Command, Write, Compare, Certify, Run, Guard, Budget, Scales, Edits, Asked, OnMachine, Workload, asked_of}
use Rattle.ags_plan.specs.declared.causes.Cause.TheVariants as cause
use Rattle.ags_plan.specs.Plan.{WorkAt}
use Rattle.ags_plan.specs.Walk.{Told, Agrees, EndsAt, LeadsTo}
use Rattle.ags_plan.proofs.WorkLemmas.{way_to_work}
use Rattle.ags_plan.specs.Lawful.{AreReadable, AreDoable, AreApart, IsLawful}
use Rattle.ags_places.specs.declared.source_error.SourceError.{SourceError}
use Rattle.ags_places.specs.Deck.{cards}
use Rattle.ags_places.proofs.RunningLemmas.{some_fits, fits_one}
use Rattle.ags_budget.proofs.OneLemmas.{some_timed, one_timed}
use Rattle.ags_budget.specs.declared.answers.Timed.{Timed}
use Rattle.ags_budget.specs.declared.answers.Timed.TheVariants.{Within, Unsafe, Over}
use Rattle.ags_cert.specs.Cert.{Stated, certificate_of}
use Rattle.ags_certread.proofs.TextLaws as cert
use Rattle.ags_certtext.specs.declared.cert_error.CertError.TheVariants as certificate
use Rattle.ags_domain.specs.Value.{value_meaning}
use Rattle.ags_domain.specs.MeaningLaws.{value_lawful}
use Rattle.ags_domain.specs.declared.values.Value.{Value as Words}
use Rattle.ags_verdict.specs.Verdict.{IsVerdict}
use Rattle.ags_verdict.specs.declared.verdicts.Verdict.{Verdict}
use Rattle.ags_verdict.specs.declared.verdicts.Verdict.TheVariants.{Certified, Refused}
use Rattle.ags_verdict.proofs.VerdictLemmas.{verdict_one}
use Rattle.ags_check.proofs.AnswerLemmas.{some_verdict}
use Rattle.ags_compare.specs.declared.comparing.Compared.{Compared}
use Rattle.ags_compare.specs.declared.comparing.Compared.TheVariants.{Equal, Differs}
use Rattle.ags_compare.specs.Comparison.{IsComparison}
use Rattle.ags_compare.proofs.ComparisonLemmas.{one_comparison, some_comparison}
use Rattle.ags_listing.specs.declared.list_error.ListError.{ListError}
use Rattle.ags_listing.specs.Listing.{listing}
use Rattle.ags_listing.specs.Reads.{Reads}
use Rattle.ags_listing.proofs.MeaningLemmas as listed
use Rattle.ags_load.specs.Workload.{source_text}
use Rattle.ags_image.specs.Tape.{tape_text}
use Rattle.ags_xref.specs.Xref.{xref_text}
use Rattle.ags_asm.specs.Source.{CardWords, Defines, placed_words}
use Rattle.ags_asm.proofs.ApartLemmas.{each_place_once}
use Rattle.ags_asm.proofs.MeaningLemmas as source
use Rattle.ags_asm.proofs.MemoryLemmas.{words_of_memory}
use Rattle.ags_image.specs.Image.{IsImage, IsImageOf}
use Rattle.ags_image.proofs.ImageLaws.{one_image, one_word_a_place, some_image}
use Rattle.ags_machfile.specs.declared.mach_error.MachError.{MachError}
use Rattle.ags_machfile.specs.MachineFile.{machine_of}
use Rattle.ags_machfile.proofs.FileLemmas.{machine_of-IsMachine}
use Rattle.ags_isa.specs.Code.{AreCodes}
use Rattle.ags_ports.specs.declared.machines.Machine.{Machine}
use Rattle.ags_ports.specs.Machine.{IsMachine, standard_machine}
use Rattle.ags_ports.proofs.MachineLemmas.{IsMachine-standard}
use Rattle.ags_script.specs.declared.commands.Command.{Command as ScriptCommand}
use Rattle.ags_script.specs.declared.script_errors.ScriptError.TheVariants.{At}
use Rattle.ags_script.proofs.ScriptLemmas as script
use Rattle.ags_play.specs.Played.{Met, Nothing}
use Rattle.ags_scale.proofs.OneLemmas.{some_scaled, one_scaled}
use Rattle.ags_scale.specs.declared.answers.Scaled.{Scaled}
use Rattle.ags_scale.specs.declared.answers.Scaled.TheVariants as scaled
use Rattle.ags_edits.specs.declared.edits_errors.EditsError.TheVariants as edits_error
use Rattle.ags_edits.specs.Text.{IsLawful as IsLawfulEdit}
use Rattle.ags_edits.proofs.MeaningLemmas as edits
use Rattle.ags_recheck.specs.declared.telling.Told.{Told as ToldOf}
use Rattle.ags_recheck.specs.declared.telling.Told.TheVariants.{Made, NotMade}
use Rattle.ags_recheck.proofs.TellingLemmas.{some_told, one_told}
use Rattle.ags_tags.specs.declared.scale_errors.ScaleError.TheVariants as scales_error
use Rattle.ags_tags.proofs.MeaningLemmas as scales
use Rattle.ags_times.specs.declared.budget_errors.BudgetError.TheVariants as times_error
use Rattle.ags_times.proofs.MeaningLaws as times
use Rattle.ags_program.specs.declared.status.Status.{Status}
use Rattle.ags_program.specs.declared.status.Status.TheVariants.{Done, No, BadMachine, BadSource, BadCert, BadText, BadWords, LongFile}
use Rattle.ags_program.specs.Files.{Kind, MachineFile, Source, Listing, Certificate, Script, Times, ScaleTags, EditList, Assembly, Pair, Value, HoldsSource, Holds, Refuses, refused_status}
use Rattle.ags_program.specs.PlayLaws.{some_shown, one_shown, some_played, one_played}
use Rattle.ags_program.specs.Program.{program, command_plan, plan_on, workload_plan, asked_plan, plan_of}
use Rattle.ags_program.specs.Status.{cause_of}
use Rattle.ags_program.specs.Text.{words_line, certificate_fault_line, edit_lines, edits_fault_line, fault_line, listing_fault_line, machine_fault_line, scales_fault_line, script_fault_line, times_fault_line, compared_line, scaled_line, timed_line, verdict_line}
use Rattle.ags_program.specs.Work.{Work, NoForm, WriteText, CompareImages, JudgePair, PlayScript, Sequel, ListingBefore, PlayBehind, CountsInstead, BudgetBehind, ScalesBehind, EditsBehind, ComesWith, IsTextOf, IsComparisonOf, IsJudgementOf, IsPlayedBy, compared_status, counts_line, edits_status, met_status, scaled_status, timed_status, verdict_status, Makes}

-- ---- files

-- a machine file's bytes give a machine, or fail a test
machine_or_fault : (read : Result Machine MachError) → ((machine : Machine) × (read ≡ Ok machine)) ⊎ ((error : MachError) × (read ≡ Err error))
machine_or_fault (Ok machine) = inl (machine, refl)
machine_or_fault (Err error) = inr (error, refl)

-- a file of a kind holds something, or is refused
some_reading : (kind : Kind) (bytes : List ℕ) → ((value : Value kind) × Holds kind bytes value) ⊎ ((line : List ℕ) × Refuses kind bytes line)
some_reading MachineFile bytes = elim (machine_or_fault (machine_of bytes)) [
  | inl (machine, is) ↦ inl (machine, is)
  | inr (error, faulty) ↦ inr (machine_fault_line error, record { error = error; faulty = faulty; line_is = refl })
]
some_reading (Source machine) bytes = elim (source.each_means machine.codes bytes) [
  | inl (defined, defines) ↦ inl (record { bytes = bytes; defined = defined }, record { bytes_are = refl; defines = defines })
  | inr (error, faulty) ↦ inr (fault_line error, record { error = error; faulty = faulty; line_is = refl })
]
some_reading Listing bytes = elim (listed.each_listing_means bytes) [
  | inl (image, reads) ↦ inl (image, reads)
  | inr (error, faulty) ↦ inr (listing_fault_line error, record { error = error; faulty = faulty; line_is = refl })
]
some_reading (Certificate machine) bytes = elim (cert.each_text_means machine.ports bytes) [
  | inl (stated, is) ↦ inl (stated, is)
  | inr (number, kind, faulty) ↦ inr (certificate_fault_line (certificate.At number kind), record { number = number; kind = kind; faulty = faulty; line_is = refl })
]
some_reading (Script machine) bytes = elim (script.script_or_faulty machine bytes) [
  | inl (commands, is) ↦ inl (commands, is)
  | inr (number, kind, faulty) ↦ inr (script_fault_line (At number kind), record { number = number; kind = kind; faulty = faulty; line_is = refl })
]
some_reading (Times rows) bytes = elim (times.each_text_means rows bytes) [
  | inl (bounds, is) ↦ inl (bounds, is)
  | inr (number, kind, faulty) ↦ inr (times_fault_line (times_error.At number kind), record { number = number; kind = kind; faulty = faulty; line_is = refl })
]
some_reading (ScaleTags machine rows) bytes = elim (scales.each_text_means machine.ports rows bytes) [
  | inl (declared, is) ↦ inl (declared, is)
  | inr (number, kind, faulty) ↦ inr (scales_fault_line (scales_error.At number kind), record { number = number; kind = kind; faulty = faulty; line_is = refl })
]
some_reading EditList bytes = elim (edits.each_text_means bytes) [
  | inl (made, is) ↦ inl (made, is)
  | inr (number, kind, faulty) ↦ inr (edits_fault_line (edits_error.At number kind), record { number = number; kind = kind; faulty = faulty; line_is = refl })
]

-- what was read of a source is one thing
one_assembly : (order_codes bytes : List ℕ) (one other : Assembly) → HoldsSource order_codes bytes one → HoldsSource order_codes bytes other → one ≡ other
one_assembly order_codes bytes one other first second =
    ap (λ (b : List ℕ). record { bytes = b; defined = one.defined }) (first.bytes_are ∙ sym second.bytes_are)
    ∙ ap (λ (d : CardWords). record { bytes = other.bytes; defined = d }) (source.one_meaning order_codes bytes one.defined other.defined first.defines second.defines)

one_reading : (kind : Kind) (bytes : List ℕ) (one other : Value kind) → Holds kind bytes one → Holds kind bytes other → one ≡ other
one_reading MachineFile bytes one other first second = cc
one_reading (Source machine) bytes one other first second = one_assembly machine.codes bytes one other first second
one_reading Listing bytes one other first second = listed.one_listing bytes one other first second
one_reading (Certificate machine) bytes one other first second = cert.one_cert_of machine.ports bytes one other first second
one_reading (Script machine) bytes one other first second = script.one_script machine bytes one other first second
one_reading (Times rows) bytes one other first second = times.one_budget_of rows bytes one other first second
one_reading (ScaleTags machine rows) bytes one other first second = scales.one_scales_of machine.ports rows bytes one other first second
one_reading EditList bytes one other first second = edits.one_edits_of bytes one other first second

-- the lines of two faults that are one
same_line : {K : Type 0} (text_of : ℕ → K → List ℕ) (line other : ℕ) (kind another : K) → (line ≡ other) × (kind ≡ another) → text_of line kind ≡ text_of other another
same_line {K} text_of line other kind another (lines, kinds) = ap (λ (n : ℕ). text_of n kind) lines ∙ ap (λ (k : K). text_of other k) kinds

one_refusal : (kind : Kind) (bytes line other : List ℕ) → Refuses kind bytes line → Refuses kind bytes other → line ≡ other
one_refusal MachineFile bytes line other first second =
    let same : first.error ≡ second.error = cc in
    first.line_is ∙ ap (λ (e : MachError). machine_fault_line e) same ∙ sym second.line_is
one_refusal (Source machine) bytes line other first second =
    first.line_is ∙ ap (λ (e : SourceError). fault_line e) (source.one_fault bytes first.error second.error first.faulty second.faulty) ∙ sym second.line_is
one_refusal Listing bytes line other first second =
    first.line_is ∙ ap (λ (e : ListError). listing_fault_line e) (listed.one_fault bytes first.error second.error first.faulty second.faulty) ∙ sym second.line_is
one_refusal (Certificate machine) bytes line other first second =
    let same = cert.one_fault_of machine.ports bytes first.number second.number first.kind second.kind first.faulty second.faulty in
    first.line_is ∙ same_line (λ n k. certificate_fault_line (certificate.At n k)) first.number second.number first.kind second.kind same ∙ sym second.line_is
one_refusal (Script machine) bytes line other first second =
    let same = script.one_fault machine bytes first.number second.number first.kind second.kind first.faulty second.faulty in
    first.line_is ∙ same_line (λ n k. script_fault_line (At n k)) first.number second.number first.kind second.kind same ∙ sym second.line_is
one_refusal (Times rows) bytes line other first second =
    let same = times.one_fault_of rows bytes first.number second.number first.kind second.kind first.faulty second.faulty in
    first.line_is ∙ same_line (λ n k. times_fault_line (times_error.At n k)) first.number second.number first.kind second.kind same ∙ sym second.line_is
one_refusal (ScaleTags machine rows) bytes line other first second =
    let same = scales.one_fault_of machine.ports rows bytes first.number second.number first.kind second.kind first.faulty second.faulty in
    first.line_is ∙ same_line (λ n k. scales_fault_line (scales_error.At n k)) first.number second.number first.kind second.kind same ∙ sym second.line_is
one_refusal EditList bytes line other first second =
    let same = edits.one_fault_of bytes first.number second.number first.kind second.kind first.faulty second.faulty in
    first.line_is ∙ same_line (λ n k. edits_fault_line (edits_error.At n k)) first.number second.number first.kind second.kind same ∙ sym second.line_is

not_both : (kind : Kind) (bytes line : List ℕ) (value : Value kind) → Holds kind bytes value → Refuses kind bytes line → ⊥
not_both MachineFile bytes line machine holds refuses = let faulty = refuses.faulty in absurd cc
not_both (Source machine) bytes line assembly holds refuses = source.not_both machine.codes bytes assembly.defined refuses.error holds.defines refuses.faulty
not_both Listing bytes line image reads refuses = listed.not_both bytes image refuses.error reads refuses.faulty
not_both (Certificate machine) bytes line stated is refuses = cert.never_both machine.ports bytes stated refuses.number refuses.kind is refuses.faulty
not_both (Script machine) bytes line commands is refuses = script.not_faulty machine bytes commands refuses.number refuses.kind is refuses.faulty
not_both (Times rows) bytes line bounds is refuses = times.never_both rows bytes bounds refuses.number refuses.kind is refuses.faulty
not_both (ScaleTags machine rows) bytes line declared is refuses = scales.never_both machine.ports rows bytes declared refuses.number refuses.kind is refuses.faulty
not_both EditList bytes line made is refuses = edits.never_both bytes made refuses.number refuses.kind is refuses.faulty

are_readable : AreReadable program
are_readable = record {
  some = λ kind bytes short. some_reading kind bytes;
  one_value = λ kind bytes one other short first second. one_reading kind bytes one other first second;
  one_line = one_refusal;
  not_both = not_both;
}

-- ---- works

-- the words are a source's, by some table of codes
AreWordsOfSource : CardWords → Type 0
AreWordsOfSource defined = (order_codes : List ℕ) × AreCodes order_codes × ((bytes : List ℕ) × Defines order_codes bytes defined)

-- what is so of what stands with a verdict: there is a bound for each row, and edits are of the memory
IsSequelFor : Pair → Sequel → Type 0
IsSequelFor pair (BudgetBehind bounds) = length bounds ≡ length pair.cert.rows
IsSequelFor pair (EditsBehind made) = All IsLawfulEdit made
IsSequelFor pair _ = Unit {0}

-- what is so of a work in which a walk ends: its machine is one, its words are a source's, and a listing's image is read of its bytes
IsAskedFor : Work → Type 0
IsAskedFor NoForm = Unit {0}
IsAskedFor (WriteText text assembly) = AreWordsOfSource assembly.defined
IsAskedFor (CompareImages defined listed) = AreWordsOfSource defined × ((bytes : List ℕ) × Reads bytes listed)
IsAskedFor (JudgePair pair sequel) = IsMachine pair.machine × AreWordsOfSource pair.assembly.defined × IsSequelFor pair sequel
IsAskedFor (PlayScript machine defined commands) = IsMachine machine × AreWordsOfSource defined

-- of the work that a command leads to, and it isn't the one that says that the arguments are no form
asked_on_way : (told : Told) (machine : Machine) (command : Command) (work : Work) → IsMachine machine
    → LeadsTo program Agrees told (command_plan machine command) work → IsAskedFor work × (work ≢ NoForm)
unfolding IsAskedFor AreWordsOfSource IsSequelFor
asked_on_way told machine (Write text name) work is (assembly, (bytes, agrees, holds), same) =
    (subst IsAskedFor same (machine.codes, is.codes, (bytes, holds.holds.defines)), λ none. absurd cc)
asked_on_way told machine (Compare name listing) work is (assembly, (bytes, agrees, holds), (listed, (there, seen, has), same)) =
    (subst IsAskedFor same ((machine.codes, is.codes, (bytes, holds.holds.defines)), (there, has.holds)), λ none. absurd cc)
asked_on_way told machine (Certify name certificate) work is (assembly, (bytes, agrees, holds), (stated, seen, same)) =
    (subst IsAskedFor same (is, (machine.codes, is.codes, (bytes, holds.holds.defines)), tt), λ none. absurd cc)
asked_on_way told machine (Run name script) work is (assembly, (bytes, agrees, holds), (commands, seen, same)) =
    (subst IsAskedFor same (is, (machine.codes, is.codes, (bytes, holds.holds.defines))), λ none. absurd cc)
asked_on_way told machine (Guard name script certificate) work is (assembly, (bytes, agrees, holds), (stated, seen, (commands, found, same))) =
    (subst IsAskedFor same (is, (machine.codes, is.codes, (bytes, holds.holds.defines)), tt), λ none. absurd cc)
asked_on_way told machine (Budget name certificate timing) work is (assembly, (bytes, agrees, holds), (stated, seen, (bounds, (there, found, has), same))) =
    (subst IsAskedFor same (is, (machine.codes, is.codes, (bytes, holds.holds.defines)), has.holds.are_bounds.count), λ none. absurd cc)
asked_on_way told machine (Scales name certificate tagging) work is (assembly, (bytes, agrees, holds), (stated, seen, (declared, (there, found, has), same))) =
    (subst IsAskedFor same (is, (machine.codes, is.codes, (bytes, holds.holds.defines)), tt), λ none. absurd cc)
asked_on_way told machine (Edits name certificate changes) work is (assembly, (bytes, agrees, holds), (stated, seen, (made, (there, found, has), same))) =
    (subst IsAskedFor same (is, (machine.codes, is.codes, (bytes, holds.holds.defines)), edits.lawful_edits there made has.holds), λ none. absurd cc)

-- the same, of the work that a command line leads to
asked_by_line : (told : Told) (machine : Option (List ℕ)) (command : Command) (work : Work)
    → LeadsTo program Agrees told (plan_on machine (λ m. command_plan m command)) work → IsAskedFor work × (work ≢ NoForm)
asked_by_line told None command work leads = asked_on_way told standard_machine command work IsMachine-standard leads
asked_by_line told (Some name) command work (machine, (bytes, agrees, holds), leads) =
    asked_on_way told machine command work (machine_of-IsMachine bytes machine holds.holds) leads

-- and of the work that a workload leads to
asked_by_workload : (told : Told) (size : ℕ) (work : Work) → LeadsTo program Agrees told (workload_plan size) work → IsAskedFor work × (work ≢ NoForm)
unfolding IsAskedFor AreWordsOfSource IsSequelFor
asked_by_workload told size work (assembly, holds, (stated, has, same)) =
    (subst IsAskedFor same (IsMachine-standard, (standard_machine.codes, IsMachine-standard.codes, (source_text size, holds.holds.defines)), tt), λ none. absurd cc)

asked_by_form : (told : Told) (asked : Asked) (work : Work) → LeadsTo program Agrees told (asked_plan (Some asked)) work → IsAskedFor work × (work ≢ NoForm)
asked_by_form told (OnMachine line) work leads = asked_by_line told line.machine line.command work leads
asked_by_form told (Workload size) work leads = asked_by_workload told size work leads

-- nothing that is asked for comes to the work that says that the arguments are no form
pub comes_to_no_form : (told : Told) (asked : Asked) → EndsAt program Agrees told (asked_plan (Some asked)) (WorkAt NoForm) → ⊥
comes_to_no_form told asked ends = (asked_by_form told asked NoForm (way_to_work program Agrees told (asked_plan (Some asked)) NoForm ends)).1 refl

asked_by : (told : Told) (asked : Option Asked) (work : Work) → EndsAt program Agrees told (asked_plan asked) (WorkAt work) → IsAskedFor work
unfolding IsAskedFor
asked_by told None work end = let same : work ≡ NoForm = cc in subst IsAskedFor (sym same) tt
asked_by told (Some asked) work ends = (asked_by_form told asked work (way_to_work program Agrees told (asked_plan (Some asked)) work ends)).0

-- words of a source have an image
some_image_of : (defined : CardWords) → AreWordsOfSource defined → (image : List (Option ℕ)) × IsImageOf (placed_words defined) image
unfolding AreWordsOfSource
some_image_of defined (order_codes, are, (bytes, defines)) =
    some_image (placed_words defined) (words_of_memory order_codes bytes defined are defines) (one_word_a_place (placed_words defined) (each_place_once order_codes bytes defined defines))

-- a source has each text
some_text : (text : SourceText) (assembly : Assembly) → AreWordsOfSource assembly.defined → (written : List ℕ) × IsTextOf text assembly written
some_text what.Listing assembly are = (listing assembly.bytes assembly.defined, refl)
some_text what.Tape assembly are = let (image, image_is) = some_image_of assembly.defined are in (tape_text image, (image, image_is, refl))
some_text what.CrossReference assembly are =
    let (symbols, fits) = some_fits (cards assembly.bytes) in (xref_text assembly.bytes symbols, (symbols, fits, refl))

-- and one of each
one_text : (text : SourceText) (assembly : Assembly) (written other : List ℕ) → IsTextOf text assembly written → IsTextOf text assembly other → written ≡ other
one_text what.Listing assembly written other first second = first ∙ sym second
one_text what.Tape assembly written other (image, image_is, is) (another, too, also) =
    is ∙ ap tape_text (one_image (placed_words assembly.defined) image another image_is too) ∙ sym also
one_text what.CrossReference assembly written other (symbols, fits, is) (others, fit, also) =
    is ∙ ap (xref_text assembly.bytes) (fits_one symbols others (cards assembly.bytes) fits fit) ∙ sym also

-- words of a source and a listing compare in one way
one_comparison_of : (defined : CardWords) (listed : List (Option ℕ)) (text other : List ℕ) (status ended : Status)
    → IsComparisonOf defined listed text status → IsComparisonOf defined listed other ended → (text ≡ other) × (status ≡ ended)
one_comparison_of defined listed text other status ended first second =
    let same = one_image (placed_words defined) first.image second.image first.image_is second.image_is in
    let compares : IsComparison first.image listed second.compared = subst (λ (i : List (Option ℕ)). IsComparison i listed second.compared) (sym same) second.comparison in
    let one = one_comparison first.image listed first.compared second.compared first.comparison compares in
    (first.text_is ∙ ap compared_line one ∙ sym second.text_is, first.status_is ∙ ap compared_status one ∙ sym second.status_is)

-- what comes with a verdict, whatever stands with it
some_coming : (sequel : Sequel) (pair : Pair) (image : List (Option ℕ)) (verdict : Verdict Words) → IsMachine pair.machine → IsImage image → IsSequelFor pair sequel
    → (text : List ℕ) × (status : Status) × ComesWith sequel pair image verdict text status
unfolding IsSequelFor
some_coming ListingBefore pair image verdict is image_is so =
    (listing pair.assembly.bytes pair.assembly.defined ++ verdict_line verdict, verdict_status verdict, (refl, refl))
some_coming (PlayBehind commands) pair image verdict is image_is so = some_played pair.machine image pair.cert commands is verdict
some_coming (CountsInstead size) pair image verdict is image_is so = (counts_line size pair.assembly.defined verdict, verdict_status verdict, (refl, refl))
some_coming (BudgetBehind bounds) pair image verdict is image_is so =
    let (timed, is_timed) = some_timed pair.machine image (certificate_of pair.cert) bounds is image_is so in
    (verdict_line verdict ++ timed_line timed, timed_status timed, record { timed = timed; is_timed = is_timed; text_is = refl; status_is = refl })
some_coming (ScalesBehind declared) pair image verdict is image_is so =
    let (answer, is_scaled) = some_scaled pair.machine image (certificate_of pair.cert) declared is image_is in
    (verdict_line verdict ++ scaled_line answer, scaled_status answer, record { answer = answer; is_scaled = is_scaled; text_is = refl; status_is = refl })
some_coming (EditsBehind made) pair image verdict is image_is so =
    let (told, after, are) = some_told (record { machine = pair.machine; image = image; cert = pair.cert }) made is image_is so in (
      verdict_line verdict ++ edit_lines 1 told,
      edits_status (verdict_status verdict) told,
      record { told = told; after = after; are_told = are; text_is = refl; status_is = refl },
    )

-- and that is one text and one status
one_coming : (sequel : Sequel) (pair : Pair) (image : List (Option ℕ)) (verdict : Verdict Words) (text other : List ℕ) (status ended : Status) → IsMachine pair.machine
    → ComesWith sequel pair image verdict text status → ComesWith sequel pair image verdict other ended → (text ≡ other) × (status ≡ ended)
one_coming ListingBefore pair image verdict text other status ended is first second = (first.0 ∙ sym second.0, first.1 ∙ sym second.1)
one_coming (PlayBehind commands) pair image verdict text other status ended is first second =
    one_played pair.machine image pair.cert commands is verdict text other status ended first second
one_coming (CountsInstead size) pair image verdict text other status ended is first second = (first.0 ∙ sym second.0, first.1 ∙ sym second.1)
one_coming (BudgetBehind bounds) pair image verdict text other status ended is first second =
    let same = one_timed pair.machine image (certificate_of pair.cert) bounds is first.timed second.timed first.is_timed second.is_timed in
    (first.text_is ∙ ap (λ (t : Timed). verdict_line verdict ++ timed_line t) same ∙ sym second.text_is, first.status_is ∙ ap timed_status same ∙ sym second.status_is)
one_coming (ScalesBehind declared) pair image verdict text other status ended is first second =
    let same = one_scaled pair.machine image (certificate_of pair.cert) declared is first.answer second.answer first.is_scaled second.is_scaled in
    (first.text_is ∙ ap (λ (a : Scaled). verdict_line verdict ++ scaled_line a) same ∙ sym second.text_is, first.status_is ∙ ap scaled_status same ∙ sym second.status_is)
one_coming (EditsBehind made) pair image verdict text other status ended is first second =
    let same = (one_told (record { machine = pair.machine; image = image; cert = pair.cert }) made first.told second.told first.after second.after is
    first.are_told second.are_told).0 in (
      first.text_is ∙ ap (λ (t : List ToldOf). verdict_line verdict ++ edit_lines 1 t) same ∙ sym second.text_is,
      first.status_is ∙ ap (λ (t : List ToldOf). edits_status (verdict_status verdict) t) same ∙ sym second.status_is,
    )

-- a source and a certificate are judged
some_judgement : (pair : Pair) (sequel : Sequel) → IsMachine pair.machine → AreWordsOfSource pair.assembly.defined → IsSequelFor pair sequel
    → (text : List ℕ) × (status : Status) × IsJudgementOf pair sequel text status
some_judgement pair sequel is are so =
    let (image, image_is) = some_image_of pair.assembly.defined are in
    let (verdict, is_verdict) = some_verdict pair.machine image (certificate_of pair.cert) is image_is.is_image in
    let (text, status, comes) = some_coming sequel pair image verdict is image_is.is_image so in
    (text, status, record { image = image; image_is = image_is; verdict = verdict; is_verdict = is_verdict; comes = comes })

-- in one way
one_judgement : (pair : Pair) (sequel : Sequel) (text other : List ℕ) (status ended : Status) → IsMachine pair.machine
    → IsJudgementOf pair sequel text status → IsJudgementOf pair sequel other ended → (text ≡ other) × (status ≡ ended)
one_judgement pair sequel text other status ended is first second =
    let same = one_image (placed_words pair.assembly.defined) first.image second.image first.image_is second.image_is in
    let judged : IsVerdict value_meaning pair.machine first.image (certificate_of pair.cert) second.verdict =
    subst (λ (i : List (Option ℕ)). IsVerdict value_meaning pair.machine i (certificate_of pair.cert) second.verdict) (sym same) second.is_verdict in
    let one = verdict_one value_meaning pair.machine first.image (certificate_of pair.cert) value_lawful is first.verdict second.verdict first.is_verdict judged in
    let here : ComesWith sequel pair first.image second.verdict other ended =
    subst (λ (i : List (Option ℕ)). ComesWith sequel pair i second.verdict other ended) (sym same) second.comes in
    let comes : ComesWith sequel pair first.image first.verdict other ended =
    subst (λ (v : Verdict Words). ComesWith sequel pair first.image v other ended) (sym one) here in
    one_coming sequel pair first.image first.verdict text other status ended is first.comes comes

some_making : (work : Work) → IsAskedFor work → (text : List ℕ) × (status : Status) × Makes work text status
unfolding IsAskedFor
some_making NoForm asked = (words_line, BadWords, (refl, refl))
some_making (WriteText what assembly) asked = let (text, is) = some_text what assembly asked in (text, Done, (is, refl))
some_making (CompareImages defined listed) (are, (bytes, reads)) =
    let (image, image_is) = some_image_of defined are in
    let (compared, is) = some_comparison image listed in
    (compared_line compared, compared_status compared, record { image = image; image_is = image_is; compared = compared; comparison = is; text_is = refl; status_is = refl })
some_making (JudgePair pair sequel) (is, are, so) = some_judgement pair sequel is are so
some_making (PlayScript machine defined commands) (is, are) =
    let (image, image_is) = some_image_of defined are in
    let (text, shown) = some_shown machine defined commands image is image_is in
    (text, Done, (shown, refl))

one_making : (work : Work) (text other : List ℕ) (status ended : Status) → IsAskedFor work → Makes work text status → Makes work other ended → (text ≡ other) × (status ≡ ended)
unfolding IsAskedFor
one_making NoForm text other status ended asked first second = (first.0 ∙ sym second.0, first.1 ∙ sym second.1)
one_making (WriteText what assembly) text other status ended asked first second = (one_text what assembly text other first.0 second.0, first.1 ∙ sym second.1)
one_making (CompareImages defined listed) text other status ended asked first second = one_comparison_of defined listed text other status ended first second
one_making (JudgePair pair sequel) text other status ended asked first second = one_judgement pair sequel text other status ended asked.0 first second
one_making (PlayScript machine defined commands) text other status ended asked first second =
    (one_shown machine defined commands text other asked.0 first.0 second.0, first.1 ∙ sym second.1)

are_doable : AreDoable program plan_of
are_doable = record {
  some = λ told arguments work ends. some_making work (asked_by told (asked_of arguments) work ends);
  one = λ told arguments work text other status ended ends first second. one_making work text other status ended (asked_by told (asked_of arguments) work ends) first second;
}

-- ---- statuses

-- the statuses that works come with
unfoldable pub IsWorkStatus : Status → Type 0
IsWorkStatus Done = Unit {0}
IsWorkStatus No = Unit {0}
IsWorkStatus BadWords = Unit {0}
IsWorkStatus _ = ⊥

compared_work : (compared : Compared) → IsWorkStatus (compared_status compared)
unfolding IsWorkStatus
compared_work Equal = tt
compared_work (Differs location left right) = tt

judged_work : (verdict : Verdict Words) → IsWorkStatus (verdict_status verdict)
unfolding IsWorkStatus
judged_work (Certified rows cases) = tt
judged_work (Refused refusal) = tt

met_work : (met : Met) → IsWorkStatus (met_status met)
unfolding IsWorkStatus
met_work Nothing = tt
met_work _ = tt

timed_work : (timed : Timed) → IsWorkStatus (timed_status timed)
unfolding IsWorkStatus
timed_work (Within rows cases greatest) = tt
timed_work (Unsafe told) = tt
timed_work (Over row word x v next needs bound) = tt

scaled_work : (answer : Scaled) → IsWorkStatus (scaled_status answer)
unfolding IsWorkStatus
scaled_work (scaled.Agree rows cases) = tt
scaled_work _ = tt

edits_work : (status : Status) (told : List ToldOf) → IsWorkStatus status → IsWorkStatus (edits_status status told)
unfolding IsWorkStatus
edits_work status [] is = is
edits_work status (Made verdict ∷ more) is = edits_work (verdict_status verdict) more (judged_work verdict)
edits_work status (NotMade error ∷ more) is = tt

guarded_work : (machine : Machine) (image : List (Option ℕ)) (stated : Stated) (commands : List ScriptCommand) (verdict : Verdict Words) (text : List ℕ) (status : Status)
    → IsPlayedBy machine image stated commands verdict text status → IsWorkStatus status
unfolding IsWorkStatus
guarded_work machine image stated commands (Certified rows cases) text status played = subst IsWorkStatus (sym played.status_is) (met_work played.met)
guarded_work machine image stated commands (Refused refusal) text status played = subst IsWorkStatus (sym played.1) tt

coming_work : (sequel : Sequel) (pair : Pair) (image : List (Option ℕ)) (verdict : Verdict Words) (text : List ℕ) (status : Status)
    → ComesWith sequel pair image verdict text status → IsWorkStatus status
coming_work ListingBefore pair image verdict text status comes = subst IsWorkStatus (sym comes.1) (judged_work verdict)
coming_work (PlayBehind commands) pair image verdict text status comes = guarded_work pair.machine image pair.cert commands verdict text status comes
coming_work (CountsInstead size) pair image verdict text status comes = subst IsWorkStatus (sym comes.1) (judged_work verdict)
coming_work (BudgetBehind bounds) pair image verdict text status comes = subst IsWorkStatus (sym comes.status_is) (timed_work comes.timed)
coming_work (ScalesBehind declared) pair image verdict text status comes = subst IsWorkStatus (sym comes.status_is) (scaled_work comes.answer)
coming_work (EditsBehind made) pair image verdict text status comes =
    subst IsWorkStatus (sym comes.status_is) (edits_work (verdict_status verdict) comes.told (judged_work verdict))

made_status : (work : Work) (text : List ℕ) (status : Status) → Makes work text status → IsWorkStatus status
unfolding IsWorkStatus
made_status (JudgePair pair sequel) text status made = coming_work sequel pair made.image made.verdict text status made.comes
made_status (CompareImages defined listed) text status made = subst IsWorkStatus (sym made.status_is) (compared_work made.compared)
made_status NoForm text status made = subst IsWorkStatus (sym made.1) tt
made_status (WriteText what assembly) text status made = subst IsWorkStatus (sym made.1) tt
made_status (PlayScript machine defined commands) text status made = subst IsWorkStatus (sym made.1) tt

work_status_of_content : (status : Status) → IsWorkStatus status → cause_of status ≡ cause.Content
unfolding IsWorkStatus
work_status_of_content Done is = refl
work_status_of_content No is = refl
work_status_of_content BadWords is = refl
work_status_of_content _ is = absurd is

not_long_work : IsWorkStatus LongFile → ⊥
unfolding IsWorkStatus
not_long_work is = is

-- the statuses of files that are refused
IsRefusedStatus : Status → Type 0
IsRefusedStatus BadMachine = Unit {0}
IsRefusedStatus BadSource = Unit {0}
IsRefusedStatus BadCert = Unit {0}
IsRefusedStatus BadText = Unit {0}
IsRefusedStatus _ = ⊥

kind_refused : (kind : Kind) → IsRefusedStatus (refused_status kind)
unfolding IsRefusedStatus
kind_refused MachineFile = tt
kind_refused (Source machine) = tt
kind_refused Listing = tt
kind_refused (Certificate machine) = tt
kind_refused (Script machine) = tt
kind_refused (Times rows) = tt
kind_refused (ScaleTags machine rows) = tt
kind_refused EditList = tt

refused_no_work : (status : Status) → IsRefusedStatus status → IsWorkStatus status → ⊥
unfolding IsRefusedStatus IsWorkStatus
refused_no_work BadMachine refused is = is
refused_no_work BadSource refused is = is
refused_no_work BadCert refused is = is
refused_no_work BadText refused is = is
refused_no_work _ refused is = refused

pub not_refused_work : (kind : Kind) → IsWorkStatus (refused_status kind) → ⊥
not_refused_work kind is = refused_no_work (refused_status kind) (kind_refused kind) is

status_of_content : (status : Status) → IsRefusedStatus status → cause_of status ≡ cause.Content
unfolding IsRefusedStatus
status_of_content BadMachine refused = refl
status_of_content BadSource refused = refl
status_of_content BadCert refused = refl
status_of_content BadText refused = refl
status_of_content _ refused = absurd refused

refused_not_long : (kind : Kind) → refused_status kind ≢ LongFile
unfolding IsRefusedStatus
refused_not_long kind = λ is. subst IsRefusedStatus is (kind_refused kind)

are_apart : AreApart program
are_apart = record {
  absent = refl;
  long = refl;
  read_fault = refl;
  write_fault = refl;
  memory = refl;
  refused = λ kind. status_of_content (refused_status kind) (kind_refused kind);
  refused_not_long = refused_not_long;
  made = λ work text status made. work_status_of_content status (made_status work text status made);
  made_not_long = λ work text made. not_long_work (made_status work text LongFile made);
  made_not_refused = λ work text kind made. not_refused_work kind (made_status work text (refused_status kind) made);
}

pub lawful_program : IsLawful program plan_of
lawful_program = record { readable = are_readable; doable = are_doable; apart = are_apart }
