-- What `ags_main` says, from its content: command by command and status by status.
use Rattle.std.proofs.Common.{◌≡◌, ℕ, ◌≤◌, List, [], ◌∷◌, ◌++◌, length, ◌⊎◌, Option, Some, None, Ok, refl, sym, ap, subst, ◌∙◌, inl, inr}
use Rattle.ags_command.specs.declared.source_texts.SourceText.{SourceText}
use Rattle.ags_command.specs.Command.{Command, Write, Compare, Certify, Run, Guard, CommandLine, line_arguments, Asked, OnMachine, Workload, IsAsked, asked_arguments, asked_of, AreNoForm}
use Rattle.ags_command.proofs.AskedLemmas.{asked_of-asked_arguments, asked_arguments-asked_of}
use Rattle.ags_load.specs.Workload.{cert_text}
use Rattle.ags_outside.specs.ToldFile.{Stored}
use Rattle.ags_outside.specs.Sink.{appended}
use Rattle.ags_plan.specs.Plan.{Plan, End, AbsentAt, LongAt, RefusedAt, WorkAt}
use Rattle.ags_plan.specs.Walk.{Told, Agrees, Tells, EndsAt, LeadsTo, IsGiven}
use Rattle.ags_plan.specs.Answer.{ComesWith, IsAnswer}
use Rattle.ags_plan.specs.Outcome.{Answered, Ends, EndsExactly, FindsRefusal}
use Rattle.ags_plan.proofs.WalkLemmas.{told_bytes, way_to_refused}
use Rattle.ags_plan.proofs.WorkLemmas.{way_to_work, work_of_way}
use Rattle.ags_plan.proofs.StatusLemmas.{refused_exactly, work_exactly}
use Rattle.ags_asm.specs.Source.{CardWords, Defines, placed_words}
use Rattle.ags_compare.specs.declared.comparing.Compared.{Compared}
use Rattle.ags_compare.specs.declared.comparing.Compared.TheVariants.{Equal, Differs}
use Rattle.ags_compare.specs.Comparison.{IsComparison}
use Rattle.ags_compare.proofs.ComparisonLemmas.{equal_is_one}
use Rattle.ags_image.specs.Image.{IsImageOf}
use Rattle.ags_listing.specs.Listing.{listing}
use Rattle.ags_listing.specs.Reads.{Reads}
use Rattle.ags_budget.specs.declared.answers.Timed.{Timed}
use Rattle.ags_budget.specs.declared.answers.Timed.TheVariants.{Within, Unsafe, Over}
use Rattle.ags_cert.specs.Cert.{certificate_of}
use Rattle.ags_certread.proofs.SuitLemmas.{suits}
use Rattle.ags_cert.specs.Text.{IsCertOf}
use Rattle.ags_certtext.specs.declared.cert_error.CertError.TheVariants as certificate
use Rattle.ags_domain.specs.Value.{value_meaning}
use Rattle.ags_domain.specs.MeaningLaws.{value_lawful}
use Rattle.ags_domain.specs.declared.values.Value.{Value}
use Rattle.ags_safe.proofs.RunLemmas.{safe}
use Rattle.ags_ports.specs.Machine.{IsMachine}
use Rattle.ags_ports.proofs.MachineLemmas.{IsMachine-standard}
use Rattle.ags_machfile.proofs.FileLemmas.{machine_of-IsMachine}
use Rattle.ags_verdict.specs.Verdict.{IsVerdict}
use Rattle.ags_verdict.specs.declared.verdicts.Verdict.{Verdict}
use Rattle.ags_verdict.specs.declared.verdicts.Verdict.TheVariants.{Certified, Refused}
use Rattle.ags_verdict.proofs.VerdictLemmas.{accepted_of, certified_of, counted_of}
use Rattle.ags_machfile.specs.MachineFile.{machine_of}
use Rattle.ags_ports.specs.declared.machines.Machine.{Machine}
use Rattle.ags_ports.specs.Machine.{standard_machine}
use Rattle.ags_script.specs.declared.commands.Command.{Command as ScriptCommand}
use Rattle.ags_script.specs.Script.{IsScript}
use Rattle.ags_play.specs.Played.{Met, Nothing}
use Rattle.ags_scale.specs.declared.answers.Scaled.{Scaled}
use Rattle.ags_scale.specs.declared.answers.Scaled.TheVariants as scaled
use Rattle.ags_top.proofs.BudgetLemmas.{kept_where_done}
use Rattle.ags_top.proofs.ScaledLemmas.{tagged_where_done}
use Rattle.ags_recheck.specs.declared.telling.Told.{Told as ToldOf}
use Rattle.ags_recheck.specs.declared.telling.Told.TheVariants.{Made, NotMade}
use Rattle.ags_top.proofs.EditedLemmas.{safe_where_done}
use Rattle.ags_top.proofs.DeclaredLemmas.{declared_of}
use Rattle.ags_top.proofs.ThirdFileLemmas.{IsPlanned, judged_with}
use Rattle.ags_top.specs.ThirdFile.{ThirdFile, guarded_script, text_of_times, text_of_scales, text_of_edits, IsJudgedWith}
use Rattle.ags_program.specs.declared.status.Status.{Status}
use Rattle.ags_program.specs.declared.status.Status.TheVariants.{Done, No, BadMachine, BadSource, BadWords, BadCert, BadText}
use Rattle.ags_program.specs.Files.{Kind, MachineFile, Source, Listing, Certificate, Script, Times, ScaleTags, EditList, limit_of, Refuses, refused_status}
use Rattle.ags_top.specs.Outcome.{Call, EndsWith, IsMachineOf, WritesWhatIsDefined, IsComparedOn, ComparesWhatIsDefined, IsJudgedOn, JudgesWhatIsDefined, IsCertifiedOn, CertifiesWhatIsSafe, TellsMachine, TellsAccepted, CertifiesAccepted, IsWorkloadJudged, IsWorkloadCertified, JudgesWorkload, CertifiesWorkload, BadCertExactly, IsOneImage, EqualsWhatIsDefined, IsShownOn, PlaysWhatIsDefined, GuardsWhatIsDefined, IsDeclaredOn, PlaysWhatIsDeclared, JudgesWith, HoldsWhereDone, JudgesBudget, IsBoundedOn, BoundsOrderTime, JudgesScales, IsTaggedOn, KeepsDeclaredScales, IsEditedOn, EditsToWhatIsSafe, JudgesEdits, DoneAlways, NoExactly, BadWordsExactly, FindsFault, BadMachineExactly, BadSourceExactly, BadTextExactly}
use Rattle.ags_program.specs.Program.{program, command_plan, plan_on, workload_plan, asked_plan, plan_of}
use Rattle.ags_top.specs.ProgramLaws.{IsWorkStatus, comes_to_no_form, lawful_program, not_refused_work}
use Rattle.ags_program.specs.Text.{words_line, certificate_fault_line, fault_line, machine_fault_line, verdict_line, workload_line}
use Rattle.ags_program.specs.Work.{Work, NoForm, WriteText, CompareImages, JudgePair, PlayScript, Sequel, ListingBefore, PlayBehind, CountsInstead, BudgetBehind, ScalesBehind, EditsBehind, ComesWith as VerdictComesWith, IsTextOf, IsJudgementOf, IsPlayedBy, compared_status, counts_line, edits_status, met_status, scaled_status, timed_status, verdict_status, Makes}

-- ---- a run that ends with the status of a work came to a work

not_refused : (status : Status) (kind : Kind) → IsWorkStatus status → status ≡ refused_status kind → ⊥
not_refused status kind answers is = not_refused_work kind (subst IsWorkStatus is answers)

answered_work : (told : Told) (plan : Plan program) (status : Status) (end : End program) (text : List ℕ) → IsWorkStatus status → EndsAt program Agrees told plan end
    → ComesWith program end text status → (work : Work) × EndsAt program Agrees told plan (WorkAt work) × Makes work text status
unfolding IsWorkStatus
answered_work told plan status (AbsentAt name) text answers ends comes = absurd (subst IsWorkStatus comes.1 answers)
answered_work told plan status (LongAt name limit) text answers ends comes = absurd (subst IsWorkStatus comes.1 answers)
answered_work told plan status (RefusedAt line refused) text answers ends comes =
    let (kind, name, bytes, given, refuses, is) = way_to_refused program told plan line refused ends in
    absurd (not_refused status kind answers (comes.1 ∙ is))
answered_work told plan status (WorkAt work) text answers ends comes = (work, ends, comes)

-- the machine of a command line, and the way from there
way_of_command : (told : Told) (machine_file : Option (List ℕ)) (command : Command) (work : Work)
    → LeadsTo program Agrees told (plan_on machine_file (λ machine. command_plan machine command)) work
    → (machine : Machine) × IsMachineOf told machine_file machine × IsMachine machine × LeadsTo program Agrees told (command_plan machine command) work
way_of_command told None command work leads = (standard_machine, refl, IsMachine-standard, leads)
way_of_command told (Some name) command work (machine, (bytes, agrees, holds), leads) = (
  machine,
  (
    machine_of-IsMachine bytes machine holds.holds,
    λ stored is. subst (λ (b : List ℕ). machine_of b ≡ Ok machine) (told_bytes (told name) stored bytes is agrees) holds.holds,
  ),
  machine_of-IsMachine bytes machine holds.holds,
  leads,
)

-- the text of a told source
text_told : (told : Told) (machine : Machine) (what : SourceText) (name bytes text : List ℕ) (work : Work) → told name ≡ Stored bytes
    → LeadsTo program Agrees told (command_plan machine (Write what name)) work → Makes work text Done
    → (defined : CardWords) × Defines machine.codes bytes defined × IsTextOf what (record { bytes = bytes; defined = defined }) text
text_told told machine what name bytes text work is (assembly, (there, agrees, holds), same) makes =
    let here = told_bytes (told name) bytes there is agrees in
    let made : Makes (WriteText what assembly) text Done = subst (λ (w : Work). Makes w text Done) (sym same) makes in
    let read : assembly.bytes ≡ bytes = holds.holds.bytes_are ∙ here in (
      assembly.defined,
      subst (λ (b : List ℕ). Defines machine.codes b assembly.defined) here holds.holds.defines,
      subst (λ (b : List ℕ). IsTextOf what (record { bytes = b; defined = assembly.defined }) text) read made.0,
    )

-- how a told source compares with a told listing
comparison_told : (told : Told) (machine : Machine) (source listing source_bytes listing_bytes text : List ℕ) (status : Status) (work : Work) → told source ≡ Stored source_bytes
    → told listing ≡ Stored listing_bytes → LeadsTo program Agrees told (command_plan machine (Compare source listing)) work → Makes work text status
    → IsComparedOn machine source_bytes listing_bytes text status
comparison_told told machine source listing source_bytes listing_bytes text status work is too (assembly, (there, agrees, holds), (listed, (read, seen, has), same)) makes = record {
  defined = assembly.defined;
  defines = subst (λ (b : List ℕ). Defines machine.codes b assembly.defined) (told_bytes (told source) source_bytes there is agrees) holds.holds.defines;
  listed = listed;
  reads = subst (λ (b : List ℕ). Reads b listed) (told_bytes (told listing) listing_bytes read too seen) has.holds;
  comparison = subst (λ (w : Work). Makes w text status) (sym same) makes;
}

-- what compares as equal is one image
one_image_of : (machine : Machine) (source listing text : List ℕ) → IsComparedOn machine source listing text Done → IsOneImage machine source listing
one_image_of machine source listing text is = by_comparison is.comparison.compared is.comparison.comparison is.comparison.status_is
  where
    by_comparison : (compared : Compared) → IsComparison is.comparison.image is.listed compared → Done ≡ compared_status compared → IsOneImage machine source listing
    by_comparison Equal agree status =
        let same = equal_is_one is.comparison.image is.listed is.comparison.image_is.is_image is.reads.filled.is_image agree in
        record { defined = is.defined; defines = is.defines; image = is.listed; image_is = subst (IsImageOf (placed_words is.defined)) same is.comparison.image_is; reads = is.reads }
    by_comparison (Differs location left right) differ status = absurd cc

-- how a told certificate is judged for a told source
judgement_told : (told : Told) (machine : Machine) (source certificate source_bytes certificate_bytes text : List ℕ) (status : Status) (work : Work) → told source ≡ Stored source_bytes
    → told certificate ≡ Stored certificate_bytes → LeadsTo program Agrees told (command_plan machine (Certify source certificate)) work → Makes work text status
    → IsJudgedOn machine source_bytes certificate_bytes text status
judgement_told told machine source certificate source_bytes certificate_bytes text status work is too (assembly, (there, agrees, holds), (stated, (read, seen, has), same)) makes =
    let here = told_bytes (told source) source_bytes there is agrees in
    let made : IsJudgementOf (record { machine = machine; assembly = assembly; cert = stated }) ListingBefore text status =
    subst (λ (w : Work). Makes w text status) (sym same) makes in
    record {
      defined = assembly.defined;
      defines = subst (λ (b : List ℕ). Defines machine.codes b assembly.defined) here holds.holds.defines;
      cert = stated;
      is_cert = subst (λ (b : List ℕ). IsCertOf machine.ports b stated) (told_bytes (told certificate) certificate_bytes read too seen) has.holds;
      judgement =
          subst (λ (b : List ℕ). IsJudgementOf (record { machine = machine; assembly = record { bytes = b; defined = assembly.defined }; cert = stated }) ListingBefore text status)
          (holds.holds.bytes_are ∙ here) made;
    }

-- what is judged as certified is safe
safe_of : (machine : Machine) (source certificate text : List ℕ) → IsMachine machine → IsJudgedOn machine source certificate text Done → IsCertifiedOn machine source certificate text
safe_of machine source certificate text is judged = by_verdict judged.judgement.verdict judged.judgement.is_verdict judged.judgement.comes.1 judged.judgement.comes.0
  where
    by_verdict : (verdict : Verdict Value) → IsVerdict value_meaning machine judged.judgement.image (certificate_of judged.cert) verdict → Done ≡ verdict_status verdict
        → text ≡ listing source judged.defined ++ verdict_line verdict → IsCertifiedOn machine source certificate text
    by_verdict (Certified rows cases) certified status text_is =
        let counted = counted_of value_meaning machine judged.judgement.image (certificate_of judged.cert) rows cases certified in
        let accepted = accepted_of value_meaning machine judged.judgement.image (certificate_of judged.cert) rows cases certified in record {
          valid = is;
          defined = judged.defined;
          defines = judged.defines;
          image = judged.judgement.image;
          image_is = judged.judgement.image_is;
          cert = judged.cert;
          is_cert = judged.is_cert;
          accepted = accepted;
          safe = safe value_meaning value_lawful machine judged.judgement.image (certificate_of judged.cert) is judged.is_cert.is_stated.is_cert.certificate
              (suits machine certificate judged.cert judged.is_cert)
              accepted;
          cases = cases;
          verdict = subst (λ (n : ℕ). IsVerdict value_meaning machine judged.judgement.image (certificate_of judged.cert) (Certified n cases)) counted.0 certified;
          text_is = text_is ∙ ap (λ (n : ℕ). listing source judged.defined ++ verdict_line (Certified n cases)) counted.0;
        }
    by_verdict (Refused refusal) refused status text_is = absurd cc

-- how a workload is judged
workload_of : (told : Told) (size : ℕ) (text : List ℕ) (status : Status) (work : Work) → LeadsTo program Agrees told (workload_plan size) work → Makes work text status
    → IsWorkloadJudged size text status
workload_of told size text status work (assembly, holds, (stated, has, same)) makes =
    let made : IsJudgementOf (record { machine = standard_machine; assembly = assembly; cert = stated }) (CountsInstead size) text status =
    subst (λ (w : Work). Makes w text status) (sym same) makes in
    record {
      defined = assembly.defined;
      defines = holds.holds.defines;
      cert = stated;
      is_cert = has.holds;
      judgement =
          subst (λ (b : List ℕ). IsJudgementOf (record { machine = standard_machine; assembly = record { bytes = b; defined = assembly.defined }; cert = stated }) (CountsInstead size) text status)
          holds.holds.bytes_are made;
    }

-- a workload that is judged as certified is safe
safe_workload : (size : ℕ) (text : List ℕ) → IsWorkloadJudged size text Done → IsWorkloadCertified size text
safe_workload size text judged = by_verdict judged.judgement.verdict judged.judgement.is_verdict judged.judgement.comes.1 judged.judgement.comes.0
  where
    by_verdict : (verdict : Verdict Value) → IsVerdict value_meaning standard_machine judged.judgement.image (certificate_of judged.cert) verdict → Done ≡ verdict_status verdict
        → text ≡ counts_line size judged.defined verdict → IsWorkloadCertified size text
    by_verdict (Certified rows cases) certified status text_is =
        let counted = counted_of value_meaning standard_machine judged.judgement.image (certificate_of judged.cert) rows cases certified in
        let accepted = accepted_of value_meaning standard_machine judged.judgement.image (certificate_of judged.cert) rows cases certified in record {
          defined = judged.defined;
          defines = judged.defines;
          image = judged.judgement.image;
          image_is = judged.judgement.image_is;
          cert = judged.cert;
          is_cert = judged.is_cert;
          accepted = accepted;
          safe = safe value_meaning value_lawful standard_machine judged.judgement.image (certificate_of judged.cert) IsMachine-standard judged.is_cert.is_stated.is_cert.certificate
              (suits standard_machine (cert_text size) judged.cert judged.is_cert)
              accepted;
          cases = cases;
          verdict = subst (λ (n : ℕ). IsVerdict value_meaning standard_machine judged.judgement.image (certificate_of judged.cert) (Certified n cases)) counted.0 certified;
          text_is = text_is ∙ ap (λ (n : ℕ). workload_line size (length judged.defined) (length (placed_words judged.defined)) n cases) counted.0;
        }
    by_verdict (Refused refusal) refused status text_is = absurd cc

-- the play of a told script on a told source
play_told : (told : Told) (machine : Machine) (source script source_bytes script_bytes text : List ℕ) (work : Work) → told source ≡ Stored source_bytes
    → told script ≡ Stored script_bytes → LeadsTo program Agrees told (command_plan machine (Run source script)) work → Makes work text Done
    → IsShownOn machine source_bytes script_bytes text
play_told told machine source script source_bytes script_bytes text work is too (assembly, (there, agrees, holds), (commands, (read, seen, has), same)) makes =
    let made : Makes (PlayScript machine assembly.defined commands) text Done = subst (λ (w : Work). Makes w text Done) (sym same) makes in
    record {
      defined = assembly.defined;
      defines = subst (λ (b : List ℕ). Defines machine.codes b assembly.defined) (told_bytes (told source) source_bytes there is agrees) holds.holds.defines;
      commands = commands;
      is_script = subst (λ (b : List ℕ). IsScript machine b commands) (told_bytes (told script) script_bytes read too seen) has.holds;
      play = made.0;
    }

-- the way to the work of an accepted certificate over told files
accepted_leads : (told : Told) (machine : Machine) (source certificate : List ℕ) (tells : TellsAccepted told machine source certificate)
    → LeadsTo program Tells told (command_plan machine (Certify source certificate))
    (JudgePair (record { machine = machine; assembly = record { bytes = tells.source_bytes; defined = tells.defined }; cert = tells.cert }) ListingBefore)
accepted_leads told machine source certificate tells = (
  record { bytes = tells.source_bytes; defined = tells.defined },
  (tells.source_bytes, tells.source_told, record { short = tells.source_short; holds = record { bytes_are = refl; defines = tells.defines } }),
  (tells.cert, (tells.certificate_bytes, tells.certificate_told, record { short = tells.certificate_short; holds = tells.is_cert }), refl),
)

-- and the way of its command line
line_leads : (told : Told) (machine_file : Option (List ℕ)) (machine : Machine) (command : Command) (work : Work) → TellsMachine told machine_file machine
    → LeadsTo program Tells told (command_plan machine command) work → LeadsTo program Tells told (plan_on machine_file (λ m. command_plan m command)) work
line_leads told None machine command work is leads = subst (λ (m : Machine). LeadsTo program Tells told (command_plan m command) work) is leads
line_leads told (Some name) machine command work (bytes, known, short, is) leads = (machine, (bytes, known, record { short = short; holds = is }), leads)

-- what comes of it
accepted_makes : (told : Told) (machine : Machine) (source certificate : List ℕ) (tells : TellsAccepted told machine source certificate)
    → (text : List ℕ) × Makes (JudgePair (record { machine = machine; assembly = record { bytes = tells.source_bytes; defined = tells.defined }; cert = tells.cert }) ListingBefore) text Done
accepted_makes told machine source certificate tells =
    let (cases, is) = certified_of value_meaning machine tells.image (certificate_of tells.cert) tells.accepted in
    let verdict : Verdict Value = Certified (length tells.cert.rows) cases in (
      listing tells.source_bytes tells.defined ++ verdict_line verdict,
      record { image = tells.image; image_is = tells.image_is; verdict = verdict; is_verdict = is; comes = (refl, refl) },
    )

-- ---- a command line that is no form

-- a work with that status is that of no form
no_form_work : (work : Work) (text : List ℕ) → Makes work text BadWords → work ≡ NoForm
no_form_work NoForm text makes = refl
no_form_work (WriteText what assembly) text makes = let is = makes.1 in absurd cc
no_form_work (CompareImages defined listed) text makes = absurd (never makes.compared makes.status_is)
  where
    never : (compared : Compared) → BadWords ≡ compared_status compared → ⊥
    never Equal is = absurd cc
    never (Differs location left right) is = absurd cc
no_form_work (PlayScript machine defined commands) text makes = let is = makes.1 in absurd cc
no_form_work (JudgePair pair sequel) text makes = absurd (never sequel makes.verdict makes.comes)
  where
    never_met : (met : Met) → BadWords ≡ met_status met → ⊥
    never_met Nothing is = absurd cc
    never_met _ is = absurd cc

    never_verdict : (verdict : Verdict Value) → BadWords ≡ verdict_status verdict → ⊥
    never_verdict (Certified rows cases) is = absurd cc
    never_verdict (Refused refusal) is = absurd cc

    never_play : (commands : List ScriptCommand) (verdict : Verdict Value) → IsPlayedBy pair.machine makes.image pair.cert commands verdict text BadWords → ⊥
    never_play commands (Certified rows cases) played = never_met played.met played.status_is
    never_play commands (Refused refusal) played = let is = played.1 in absurd cc

    never_timed : (timed : Timed) → BadWords ≡ timed_status timed → ⊥
    never_timed (Within rows cases greatest) is = absurd cc
    never_timed (Unsafe told) is = absurd cc
    never_timed (Over row word x v next needs bound) is = absurd cc

    never_scaled : (answer : Scaled) → BadWords ≡ scaled_status answer → ⊥
    never_scaled (scaled.Agree rows cases) is = absurd cc
    never_scaled _ is = absurd cc

    never_told : (status : Status) (told : List ToldOf) → (BadWords ≡ status → ⊥) → BadWords ≡ edits_status status told → ⊥
    never_told status [] not is = not is
    never_told status (Made verdict ∷ more) not is = never_told (verdict_status verdict) more (never_verdict verdict) is
    never_told status (NotMade error ∷ more) not is = absurd cc

    never : (other : Sequel) (verdict : Verdict Value) → VerdictComesWith other pair makes.image verdict text BadWords → ⊥
    never ListingBefore verdict comes = never_verdict verdict comes.1
    never (PlayBehind commands) verdict comes = never_play commands verdict comes
    never (CountsInstead size) verdict comes = never_verdict verdict comes.1
    never (BudgetBehind bounds) verdict comes = never_timed comes.timed comes.status_is
    never (ScalesBehind declared) verdict comes = never_scaled comes.answer comes.status_is
    never (EditsBehind made) verdict comes = never_told (verdict_status verdict) comes.told (never_verdict verdict) comes.status_is

module _ (call : Call) (ends : Ends program (IsAnswer program call.told (plan_of call.arguments)) call.old call.new call.result) where
  -- what a run with that status answered
  answer_with : (status : Status) → call.result ≡ status → Ends program (IsAnswer program call.told (plan_of call.arguments)) call.old call.new status
  answer_with status is = subst (λ (s : Status). Ends program (IsAnswer program call.told (plan_of call.arguments)) call.old call.new s) is ends

  -- the way to the work in which the run ends, where the arguments ask for this
  way_to_form : (form : Asked) (work : Work) → IsAsked form → call.arguments ≡ asked_arguments form → EndsAt program Agrees call.told (plan_of call.arguments) (WorkAt work)
      → LeadsTo program Agrees call.told (asked_plan (Some form)) work
  way_to_form form work is asked found =
      way_to_work program Agrees call.told (asked_plan (Some form)) work
      (subst (λ (a : Option Asked). EndsAt program Agrees call.told (asked_plan a) (WorkAt work)) (ap asked_of asked ∙ asked_of-asked_arguments form is) found)

  -- the machine of a command line that these arguments are, and the way to the work in which they end
  pub way_asked : (machine_file : Option (List ℕ)) (command : Command) (work : Work) → call.arguments ≡ line_arguments (record { command = command; machine = machine_file })
      → EndsAt program Agrees call.told (plan_of call.arguments) (WorkAt work)
      → (machine : Machine) × IsMachineOf call.told machine_file machine × IsMachine machine × LeadsTo program Agrees call.told (command_plan machine command) work
  way_asked machine_file command work asked found =
      let line : CommandLine = record { command = command; machine = machine_file } in
      way_of_command call.told machine_file command work (way_to_form (OnMachine line) work tt asked found)

  -- with the status of a work there was an answer
  answered : (status : Status) → IsWorkStatus status → Ends program (IsAnswer program call.told (plan_of call.arguments)) call.old call.new status
      → Answered (IsAnswer program call.told (plan_of call.arguments)) call.old call.new status
  unfolding IsWorkStatus
  answered Done answers so = so
  answered No answers so = so
  answered BadWords answers so = so
  answered _ answers so = absurd answers

  -- the work of a run that ended with the status of one
  ended_with : (status : Status) → IsWorkStatus status → Answered (IsAnswer program call.told (plan_of call.arguments)) call.old call.new status
      → (text : List ℕ) × (work : Work) × EndsAt program Agrees call.told (plan_of call.arguments) (WorkAt work) × Makes work text status × (call.new ≡ appended call.old text)
  ended_with status answers so =
      let (work, found, makes) = answered_work call.told (plan_of call.arguments) status so.answer.end so.text answers so.answer.ends so.answer.comes in
      (so.text, work, found, makes, so.sent)

  -- the work of a run that ends with the status of one, the machine of its command line, and the way there
  work_with : (status : Status) (machine_file : Option (List ℕ)) (command : Command) → IsWorkStatus status → call.result ≡ status
      → call.arguments ≡ line_arguments (record { command = command; machine = machine_file })
      → (machine : Machine) × IsMachineOf call.told machine_file machine × IsMachine machine
      × ((text : List ℕ) × (work : Work) × LeadsTo program Agrees call.told (command_plan machine command) work × Makes work text status × (call.new ≡ appended call.old text))
  work_with status machine_file command answers is asked =
      let (text, work, found, makes, sent) = ended_with status answers (answered status answers (answer_with status is)) in
      let (machine, machine_is, valid, way) = way_asked machine_file command work asked found in
      (machine, machine_is, valid, (text, work, way, makes, sent))

  -- the same of a run that ends with Done or with No: what comes of its work, over the machine of its command line
  work_of_either : (machine_file : Option (List ℕ)) (command : Command) (Comes : Machine → (text : List ℕ) → Status → Type 0) → (call.result ≡ Done) ⊎ (call.result ≡ No)
      → call.arguments ≡ line_arguments (record { command = command; machine = machine_file })
      → ((machine : Machine) (text : List ℕ) (status : Status) (work : Work) → IsMachine machine → LeadsTo program Agrees call.told (command_plan machine command) work → Makes work text status
      → Comes machine text status)
      → (machine : Machine) × IsMachineOf call.told machine_file machine × ((text : List ℕ) × Comes machine text call.result × (call.new ≡ appended call.old text))
  unfolding IsWorkStatus
  work_of_either machine_file command Comes is asked comes = elim is [
    | inl done ↦ with_status Done tt done
    | inr refused ↦ with_status No tt refused
  ]
    where
      with_status : (status : Status) → IsWorkStatus status → call.result ≡ status
          → (machine : Machine) × IsMachineOf call.told machine_file machine × ((text : List ℕ) × Comes machine text call.result × (call.new ≡ appended call.old text))
      with_status status answers ended =
          let (machine, machine_is, valid, (text, work, way, makes, sent)) = work_with status machine_file command answers ended asked in
          (machine, machine_is, (text, subst (Comes machine text) (sym ended) (comes machine text status work valid way makes), sent))

  -- what the sink took where it tells
  took : (held text : List ℕ) → call.old ≡ Some held → call.new ≡ appended call.old text → call.new ≡ Some (held ++ text)
  took held text holds sent = sent ∙ ap (λ (o : Option (List ℕ)). appended o text) holds

  pub writes_what_is_defined : (what : SourceText) → WritesWhatIsDefined what call
  unfolding IsWorkStatus
  writes_what_is_defined what name bytes held machine_file is asked known holds =
      let (machine, machine_is, valid, (text, work, way, makes, sent)) = work_with Done machine_file (Write what name) tt is asked in
      let (defined, defines, text_is) = text_told call.told machine what name bytes text work known way makes in
      (machine, machine_is, (defined, defines, (text, text_is, took held text holds sent)))

  pub compares_what_is_defined : ComparesWhatIsDefined call
  compares_what_is_defined source listing source_bytes listing_bytes held machine_file is asked known too holds =
      let (machine, machine_is, (text, compared, sent)) =
      work_of_either machine_file (Compare source listing) (λ machine text status. IsComparedOn machine source_bytes listing_bytes text status) is asked
      (λ machine text status work valid way makes. comparison_told call.told machine source listing source_bytes listing_bytes text status work known too way makes) in
      (machine, machine_is, (text, compared, took held text holds sent))

  pub equals_what_is_defined : EqualsWhatIsDefined call
  unfolding IsWorkStatus
  equals_what_is_defined source listing source_bytes listing_bytes machine_file is asked known too =
      let (machine, machine_is, valid, (text, work, way, makes, sent)) = work_with Done machine_file (Compare source listing) tt is asked in
      (machine, machine_is, one_image_of machine source_bytes listing_bytes text (comparison_told call.told machine source listing source_bytes listing_bytes text Done work known too way makes))

  pub judges_what_is_defined : JudgesWhatIsDefined call
  judges_what_is_defined source certificate source_bytes certificate_bytes held machine_file is asked known too holds =
      let (machine, machine_is, (text, judged, sent)) =
      work_of_either machine_file (Certify source certificate) (λ machine text status. IsJudgedOn machine source_bytes certificate_bytes text status) is asked
      (λ machine text status work valid way makes. judgement_told call.told machine source certificate source_bytes certificate_bytes text status work known too way makes) in
      (machine, machine_is, (text, judged, took held text holds sent))

  pub certifies_what_is_safe : CertifiesWhatIsSafe call
  unfolding IsWorkStatus
  certifies_what_is_safe source certificate source_bytes certificate_bytes machine_file is asked known too =
      let (machine, machine_is, valid, (text, work, way, makes, sent)) = work_with Done machine_file (Certify source certificate) tt is asked in
      let judged = judgement_told call.told machine source certificate source_bytes certificate_bytes text Done work known too way makes in
      (machine, machine_is, (text, safe_of machine source_bytes certificate_bytes text valid judged, sent))

  -- the verdict of a workload's certificate for the words of its source
  workload_ended : (size : ℕ) (status : Status) → IsWorkStatus status → (1 ≤ size) × (size ≤ 400) → call.result ≡ status → call.arguments ≡ asked_arguments (Workload size)
      → (text : List ℕ) × IsWorkloadJudged size text status × (call.new ≡ appended call.old text)
  workload_ended size status answers is_size is asked =
      let (text, work, found, makes, sent) = ended_with status answers (answered status answers (answer_with status is)) in
      (text, workload_of call.told size text status work (way_to_form (Workload size) work is_size asked found) makes, sent)

  pub judges_workload : JudgesWorkload call
  unfolding IsWorkStatus
  judges_workload size is_size is asked = elim is [
    | inl done ↦ with_status Done tt done
    | inr refused ↦ with_status No tt refused
  ]
    where
      with_status : (status : Status) → IsWorkStatus status → call.result ≡ status → (text : List ℕ) × IsWorkloadJudged size text call.result × (call.new ≡ appended call.old text)
      with_status status answers ended =
          let (text, judged, sent) = workload_ended size status answers is_size ended asked in
          (text, subst (IsWorkloadJudged size text) (sym ended) judged, sent)

  pub certifies_workload : CertifiesWorkload call
  unfolding IsWorkStatus
  certifies_workload size is_size is asked =
      let (text, judged, sent) = workload_ended size Done tt is_size is asked in
      (text, safe_workload size text judged, sent)

  pub plays_what_is_defined : PlaysWhatIsDefined call
  unfolding IsWorkStatus
  plays_what_is_defined source script source_bytes script_bytes held machine_file is asked known too holds =
      let (machine, machine_is, valid, (text, work, way, makes, sent)) = work_with Done machine_file (Run source script) tt is asked in (
        machine,
        machine_is,
        (text, play_told call.told machine source script source_bytes script_bytes text work known too way makes, took held text holds sent),
      )

  -- what a command with a third file says
  judges_with : (file : ThirdFile) → IsPlanned file → JudgesWith file call
  judges_with file planned source certificate third source_bytes certificate_bytes third_bytes held machine_file is asked known too also holds =
      let (machine, machine_is, (text, judged, sent)) =
      work_of_either machine_file (file.command source certificate third) (λ machine text status. IsJudgedWith file machine source_bytes certificate_bytes third_bytes text status) is asked
      (λ machine text status work valid way makes.
      judged_with file planned call.told machine source certificate third source_bytes certificate_bytes third_bytes text status work known too also way makes) in
      (machine, machine_is, (text, judged, took held text holds sent))

  -- what it is worth where it is done
  holds_where_done : (file : ThirdFile) (Holds : Machine → (source certificate third text : List ℕ) → Type 0) → IsPlanned file
      → ((machine : Machine) (source certificate third text : List ℕ) → IsMachine machine → IsJudgedWith file machine source certificate third text Done → Holds machine source certificate third text)
      → HoldsWhereDone file Holds call
  unfolding IsWorkStatus
  holds_where_done file Holds planned worth source certificate third source_bytes certificate_bytes third_bytes machine_file is asked known too also =
      let (machine, machine_is, valid, (text, work, way, makes, sent)) = work_with Done machine_file (file.command source certificate third) tt is asked in (
        machine,
        machine_is,
        (
          text,
          worth machine source_bytes certificate_bytes third_bytes text valid
              (judged_with file planned call.told machine source certificate third source_bytes certificate_bytes third_bytes text Done work known too also way makes),
          sent,
        ),
      )

  pub guards_what_is_defined : GuardsWhatIsDefined call
  guards_what_is_defined source script certificate source_bytes script_bytes certificate_bytes held machine_file is asked known also too holds =
      judges_with guarded_script (λ machine source certificate third. refl) source certificate script source_bytes certificate_bytes script_bytes held machine_file is asked known too also holds

  pub plays_what_is_declared : PlaysWhatIsDeclared call
  plays_what_is_declared source script certificate source_bytes script_bytes certificate_bytes machine_file is asked known also too =
      work_of_either machine_file (Guard source script certificate) (λ machine text status. IsDeclaredOn machine source_bytes script_bytes certificate_bytes text status) is asked
      (λ machine text status work valid way makes.
      declared_of machine source_bytes script_bytes certificate_bytes text status valid
      (judged_with guarded_script (λ machine source certificate third. refl) call.told machine source certificate script source_bytes certificate_bytes script_bytes text status work known too also way makes))

  pub judges_budget : JudgesBudget call
  judges_budget = judges_with text_of_times (λ machine source certificate third. refl)

  pub bounds_order_time : BoundsOrderTime call
  bounds_order_time = holds_where_done text_of_times IsBoundedOn (λ machine source certificate third. refl) kept_where_done

  pub judges_scales : JudgesScales call
  judges_scales = judges_with text_of_scales (λ machine source certificate third. refl)

  pub keeps_declared_scales : KeepsDeclaredScales call
  keeps_declared_scales = holds_where_done text_of_scales IsTaggedOn (λ machine source certificate third. refl) tagged_where_done

  pub judges_edits : JudgesEdits call
  judges_edits = judges_with text_of_edits (λ machine source certificate third. refl)

  pub edits_to_what_is_safe : EditsToWhatIsSafe call
  edits_to_what_is_safe = holds_where_done text_of_edits IsEditedOn (λ machine source certificate third. refl) safe_where_done

  -- what is exact of a status is so of the run's end
  exactly_with : (text : List ℕ) (status : Status) → EndsExactly program call.old call.new call.result text status → EndsWith call.result status
  exactly_with text status (inl so) = inl so.0
  exactly_with text status (inr stops) = inr stops

  pub done_always : DoneAlways call
  done_always work text found makes = exactly_with text Done (work_exactly program plan_of lawful_program call.told call.arguments call.old call.new call.result ends work text Done found makes)

  pub no_exactly : NoExactly call
  unfolding IsWorkStatus
  no_exactly = record {
    only = λ is.
        let (text, work, found, makes, sent) = ended_with No tt (answer_with No is) in
        record { work = work; text = text; ends = found; makes = makes; sent = sent };
    always = λ work text found makes. exactly_with text No (work_exactly program plan_of lawful_program call.told call.arguments call.old call.new call.result ends work text No found makes);
  }

  pub certifies_accepted : CertifiesAccepted call
  certifies_accepted source certificate machine_file machine asked machine_told tells =
      let line : CommandLine = record { command = Certify source certificate; machine = machine_file } in
      let work : Work = JudgePair (record { machine = machine; assembly = record { bytes = tells.source_bytes; defined = tells.defined }; cert = tells.cert }) ListingBefore in
      let leads = line_leads call.told machine_file machine (Certify source certificate) work machine_told (accepted_leads call.told machine source certificate tells) in
      let found : EndsAt program Tells call.told (plan_of call.arguments) (WorkAt work) =
      subst (λ (a : Option Asked). EndsAt program Tells call.told (asked_plan a) (WorkAt work)) (sym (ap asked_of asked ∙ asked_of-asked_arguments (OnMachine line) tt))
      (work_of_way program Tells call.told (asked_plan (Some (OnMachine line))) work leads) in
      let (text, makes) = accepted_makes call.told machine source certificate tells in
      exactly_with text Done (work_exactly program plan_of lawful_program call.told call.arguments call.old call.new call.result ends work text Done found makes)

  pub bad_words_exactly : BadWordsExactly call
  unfolding IsWorkStatus
  bad_words_exactly = record {
    only = λ is.
        let (text, work, found, makes, sent) = ended_with BadWords tt (answer_with BadWords is) in
        let same = no_form_work work text makes in
        let none : EndsAt program Agrees call.told (plan_of call.arguments) (WorkAt NoForm) = subst (λ (w : Work). EndsAt program Agrees call.told (plan_of call.arguments) (WorkAt w)) same found in
        let made : Makes NoForm text BadWords = subst (λ (w : Work). Makes w text BadWords) same makes in
        record {
          none = λ form is_form asked. comes_to_no_form call.told form
              (subst (λ (a : Option Asked). EndsAt program Agrees call.told (asked_plan a) (WorkAt NoForm)) (ap asked_of asked ∙ asked_of-asked_arguments form is_form) none);
          sent = sent ∙ ap (appended call.old) made.0;
        };
    always = λ none. exactly_with words_line BadWords
        (work_exactly program plan_of lawful_program call.told call.arguments call.old call.new call.result ends NoForm words_line BadWords (no_form (asked_of call.arguments) refl none) (refl, refl));
  }
    where
      no_form : (asked : Option Asked) → asked_of call.arguments ≡ asked → AreNoForm call.arguments → EndsAt program Tells call.told (asked_plan (asked_of call.arguments)) (WorkAt NoForm)
      no_form None is none = rw is refl
      no_form (Some form) is none = let (is_form, arguments) = asked_arguments-asked_of call.arguments form is in absurd (none form is_form arguments)

  -- the file that a run refused, of a kind with that status
  refused_file : (status : Status) → FindsRefusal program call.told (plan_of call.arguments) call.old call.new call.result status
      → (kind : Kind) × (refused_status kind ≡ status) × FindsFault kind call
  refused_file status found = (
    found.kind,
    found.status_is,
    record {
      name = found.name;
      bytes = found.bytes;
      given = found.given;
      short = found.refuses.short;
      line = found.line;
      refuses = found.refuses.refuses;
      sent = found.sent;
    },
  )

  -- where the walk comes to a file with a fault, the run ends with the status of its kind
  refused_always : (kind : Kind) (name bytes line : List ℕ) → IsGiven program Tells call.told (plan_of call.arguments) kind name bytes → length bytes ≤ limit_of kind
      → Refuses kind bytes line → EndsWith call.result (refused_status kind)
  refused_always kind name bytes line given short refuses =
      (refused_exactly program plan_of lawful_program call.told call.arguments call.old call.new call.result ends kind).always name bytes line given
      (record { short = short; refuses = refuses })

  -- what is found where a file was refused with that status: where one kind alone has it, a file of that kind
  FindsOne : Status → Type 0
  FindsOne BadMachine = FindsFault MachineFile call
  FindsOne BadSource = (machine : Machine) × FindsFault (Source machine) call
  FindsOne BadCert = (machine : Machine) × FindsFault (Certificate machine) call
  FindsOne status = Unit {0}

  found_one : (kind : Kind) → FindsFault kind call → FindsOne (refused_status kind)
  unfolding FindsOne
  found_one MachineFile found = found
  found_one (Source machine) found = (machine, found)
  found_one Listing found = tt
  found_one (Certificate machine) found = (machine, found)
  found_one (Script machine) found = tt
  found_one (Times rows) found = tt
  found_one (ScaleTags machine rows) found = tt
  found_one EditList found = tt

  -- the kind of a file that was refused with that status, where there is one kind of it
  of_kind : (status : Status) → (kind : Kind) × (refused_status kind ≡ status) × FindsFault kind call → FindsOne status
  of_kind status (kind, is, found) = subst FindsOne is (found_one kind found)

  pub bad_machine_exactly : BadMachineExactly call
  unfolding FindsOne
  bad_machine_exactly = record {
    only = λ is. of_kind BadMachine (refused_file BadMachine ((refused_exactly program plan_of lawful_program call.told call.arguments call.old call.new call.result ends MachineFile).only is));
    always = λ name bytes error given short faulty.
        refused_always MachineFile name bytes (machine_fault_line error) given short (record { error = error; faulty = faulty; line_is = refl });
  }

  pub bad_source_exactly : BadSourceExactly call
  unfolding FindsOne
  bad_source_exactly = record {
    only = λ is. of_kind BadSource (refused_file BadSource ((refused_exactly program plan_of lawful_program call.told call.arguments call.old call.new call.result ends (Source standard_machine)).only is));
    always = λ machine name bytes error given short faulty.
        refused_always (Source machine) name bytes (fault_line error) given short (record { error = error; faulty = faulty; line_is = refl });
  }

  pub bad_cert_exactly : BadCertExactly call
  unfolding FindsOne
  bad_cert_exactly = record {
    only = λ is. of_kind BadCert (refused_file BadCert ((refused_exactly program plan_of lawful_program call.told call.arguments call.old call.new call.result ends (Certificate standard_machine)).only is));
    always = λ machine name bytes line kind given short faulty.
        refused_always (Certificate machine) name bytes (certificate_fault_line (certificate.At line kind)) given short
        (record { number = line; kind = kind; faulty = faulty; line_is = refl });
  }

  pub bad_text_exactly : BadTextExactly call
  bad_text_exactly = record {
    only = λ is. refused_file BadText ((refused_exactly program plan_of lawful_program call.told call.arguments call.old call.new call.result ends Listing).only is);
    always = λ kind name bytes line status given short refuses.
        subst (λ (s : Status). EndsWith call.result s) status (refused_always kind name bytes line given short refuses);
  }
