-- Status by status, from what a call comes to.
use Rattle.std.proofs.Common.{◌≡◌, ℕ, ◌≤◌, List, [], ◌∷◌, length, Option, Some, None, refl, ap, subst, ◌∙◌, inl, inr}
use Rattle.ags_drive.specs.BenchRun.{Met, Nothing}
use Rattle.ags_certtext.specs.declared.cert_error.CertError.TheVariants as certificate
use Rattle.ags_domain.specs.declared.values.Value.{Value}
use Rattle.ags_outside.specs.Sink.{appended}
use Rattle.ags_plan.specs.Answer.{ComesWith, IsAnswer}
use Rattle.ags_plan.specs.Outcome.{Answered, Ends, EndsExactly, FindsRefusal}
use Rattle.ags_plan.specs.Plan.{End, AbsentAt, LongAt, RefusedAt, WorkAt}
use Rattle.ags_plan.specs.Walk.{Agrees, Tells, EndsAt}
use Rattle.ags_plan.proofs.StatusLemmas.{refused_exactly, work_exactly}
use Rattle.ags_plan.proofs.WalkLemmas.{way_to_refused}
use Rattle.ags_ports.specs.declared.machines.Machine.{Machine}
use Rattle.ags_ports.specs.Machine.{standard_machine}
use Rattle.ags_program.specs.Text.{certificate_fault_line, fault_line, machine_fault_line, script_fault_line, words_line}
use Rattle.ags_script.specs.declared.script_errors.ScriptError.TheVariants.{At}
use Rattle.ags_verdict.specs.declared.verdicts.Verdict.{Verdict}
use Rattle.ags_verdict.specs.declared.verdicts.Verdict.TheVariants.{Certified, Refused}
use Rattle.ags_program.specs.declared.status.Status.{Status}
use Rattle.ags_program.specs.declared.status.Status.TheVariants.{Done, No, BadMachine, BadSource, BadWords, BadCert, BadText}
use Rattle.ags_bench.specs.Files.{Kind, MachineFile, Source, Certificate, Script, limit_of, Refuses, refused_status}
use Rattle.ags_bench.specs.Outcome.{Call, EndsSo, EndsWith, DoneAlways, NoExactly, BadWordsExactly, Gives, FindsFault, BadMachineExactly, BadSourceExactly, BadCertExactly, BadTextExactly}
use Rattle.ags_bench.specs.Program.{program, asked_plan, plan_of}
use Rattle.ags_bench.specs.ProgramLaws.{IsWorkStatus, comes_to_no_form, lawful_program, not_refused_work}
use Rattle.ags_bench.specs.Words.{Asked, asked_of, asked_words, words_with, AreNoForm}
use Rattle.ags_bench.specs.Work.{Work, NoForm, DrivePair, ComesOfVerdict, Makes}
use Rattle.ags_benchjudged.specs.Met.{met_status}

-- ---- words

-- what words ask for that ask for it
words_ask : (machine : Option (List ℕ)) (source certificate script : List ℕ)
    → asked_of (words_with machine source certificate script) ≡ Some (record { source = source; certificate = certificate; script = script; machine = machine })
words_ask None source certificate script = refl
words_ask (Some machine) source certificate script = refl

asked_of-asked_words : (asked : Asked) → asked_of (asked_words asked) ≡ Some asked
asked_of-asked_words asked = words_ask asked.machine asked.source asked.certificate asked.script

-- words of no form ask for nothing
asks_nothing : (words : List (List ℕ)) → AreNoForm words → asked_of words ≡ None
asks_nothing [] none = refl
asks_nothing (one ∷ []) none = refl
asks_nothing (one ∷ two ∷ []) none = refl
asks_nothing (one ∷ two ∷ three ∷ []) none = absurd (none (record { source = one; certificate = two; script = three; machine = None }) refl)
asks_nothing (one ∷ two ∷ three ∷ four ∷ []) none = absurd (none (record { source = one; certificate = two; script = three; machine = Some four }) refl)
asks_nothing (one ∷ two ∷ three ∷ four ∷ five ∷ words) none = refl

module _ (call : Call) (ends : Ends (program call.devices) (IsAnswer (program call.devices) call.told (plan_of call.devices call.words)) call.old call.new call.result) where
  abbrev Answers : (text : List ℕ) → Status → Type 0
  Answers text status = IsAnswer (program call.devices) call.told (plan_of call.devices call.words) text status

  -- ---- a call that ends with the status of a work came to a work

  answer_with : (status : Status) → call.result ≡ status → Ends (program call.devices) Answers call.old call.new status
  answer_with status is = subst (λ (s : Status). Ends (program call.devices) Answers call.old call.new s) is ends

  not_refused : (status : Status) (kind : Kind) → IsWorkStatus status → status ≡ refused_status kind → ⊥
  not_refused status kind answers is = not_refused_work kind (subst IsWorkStatus is answers)

  answered_work : (status : Status) (end : End (program call.devices)) (text : List ℕ) → IsWorkStatus status → EndsSo Agrees call end
      → ComesWith (program call.devices) end text status → (work : Work) × EndsSo Agrees call (WorkAt work) × Makes call.devices work text status
  unfolding IsWorkStatus
  answered_work status (AbsentAt name) text answers found comes = absurd (subst IsWorkStatus comes.1 answers)
  answered_work status (LongAt name limit) text answers found comes = absurd (subst IsWorkStatus comes.1 answers)
  answered_work status (RefusedAt line refused) text answers found comes =
      let (kind, name, bytes, given, refuses, is) = way_to_refused (program call.devices) call.told (plan_of call.devices call.words) line refused found in
      absurd (not_refused status kind answers (comes.1 ∙ is))
  answered_work status (WorkAt work) text answers found comes = (work, found, comes)

  ended_with : (status : Status) → IsWorkStatus status → Answered Answers call.old call.new status
      → (text : List ℕ) × (work : Work) × EndsSo Agrees call (WorkAt work) × Makes call.devices work text status × (call.new ≡ appended call.old text)
  ended_with status answers so =
      let (work, found, makes) = answered_work status so.answer.end so.text answers so.answer.ends so.answer.comes in
      (so.text, work, found, makes, so.sent)

  -- what is exact of a status is so of the call's end
  exactly_with : (text : List ℕ) (status : Status) → EndsExactly (program call.devices) call.old call.new call.result text status → EndsWith call status
  exactly_with text status (inl so) = inl so.0
  exactly_with text status (inr stops) = inr stops

  made_always : (work : Work) (text : List ℕ) (status : Status) → EndsSo Tells call (WorkAt work) → Makes call.devices work text status → EndsWith call status
  made_always work text status found makes =
      exactly_with text status (work_exactly (program call.devices) (plan_of call.devices) (lawful_program call.devices) call.told call.words call.old call.new call.result ends work text status found makes)

  pub done_always : DoneAlways call
  done_always work text found makes = made_always work text Done found makes

  pub no_exactly : NoExactly call
  unfolding IsWorkStatus
  no_exactly = record {
    only = λ is.
        let (text, work, found, makes, sent) = ended_with No tt (answer_with No is) in
        record { work = work; text = text; ends = found; makes = makes; sent = sent };
    always = λ work text found makes. made_always work text No found makes;
  }

  -- a work with that status is that of no form
  never_met : (met : Met) → BadWords ≡ met_status met → ⊥
  never_met Nothing is = absurd cc
  never_met _ is = absurd cc

  no_form_work : (work : Work) (text : List ℕ) → Makes call.devices work text BadWords → work ≡ NoForm
  no_form_work NoForm text makes = refl
  no_form_work (DrivePair pair lines) text makes = absurd (never makes.verdict makes.comes)
    where
      never : (verdict : Verdict Value) → ComesOfVerdict pair.machine makes.image pair.cert call.devices lines verdict text BadWords → ⊥
      never (Certified rows cases) comes = never_met comes.met comes.status_is
      never (Refused refusal) comes = let is = comes.1 in absurd cc

  pub bad_words_exactly : BadWordsExactly call
  unfolding IsWorkStatus
  bad_words_exactly = record {
    only = λ is.
        let (text, work, found, makes, sent) = ended_with BadWords tt (answer_with BadWords is) in
        let same = no_form_work work text makes in
        let none : EndsSo Agrees call (WorkAt NoForm) = subst (λ (w : Work). EndsSo Agrees call (WorkAt w)) same found in
        let made : Makes call.devices NoForm text BadWords = subst (λ (w : Work). Makes call.devices w text BadWords) same makes in
        record { none = λ form asked. no_form none form (ap asked_of asked ∙ asked_of-asked_words form); sent = sent ∙ ap (appended call.old) made.0 };
    always = λ none.
        let nothing : EndsSo Tells call (WorkAt NoForm) = says_nothing (asked_of call.words) (asks_nothing call.words none) in
        made_always NoForm words_line BadWords nothing (refl, refl);
  }
    where
      no_form : EndsSo Agrees call (WorkAt NoForm) → (form : Asked) → asked_of call.words ≡ Some form → ⊥
      no_form found form is = comes_to_no_form call.devices call.told form (subst (λ (a : Option Asked). EndsAt (program call.devices) Agrees call.told (asked_plan call.devices a) (WorkAt NoForm)) is found)

      says_nothing : (asked : Option Asked) → asked ≡ None → EndsAt (program call.devices) Tells call.told (asked_plan call.devices asked) (WorkAt NoForm)
      says_nothing None is = refl
      says_nothing (Some form) is = absurd cc

  -- ---- files

  -- the file that a call refused, of a kind with that status
  refused_file : (status : Status) → FindsRefusal (program call.devices) call.told (plan_of call.devices call.words) call.old call.new call.result status
      → (kind : Kind) × (refused_status kind ≡ status) × FindsFault kind call
  refused_file status found = (
    found.kind,
    found.status_is,
    record {
      name = found.name;
      bytes = found.bytes;
      given = found.given;
      short = found.refuses.short;
      line = found.line;
      refuses = found.refuses.refuses;
      sent = found.sent;
    },
  )

  finds_fault : (kind : Kind) → call.result ≡ refused_status kind → (other : Kind) × (refused_status other ≡ refused_status kind) × FindsFault other call
  finds_fault kind is =
      refused_file (refused_status kind) ((refused_exactly (program call.devices) (plan_of call.devices) (lawful_program call.devices) call.told call.words call.old call.new call.result ends kind).only is)

  -- where the walk comes to a file with a fault, the call ends with the status of its kind
  refused_always : (kind : Kind) (name bytes line : List ℕ) → Gives Tells call kind name bytes → length bytes ≤ limit_of kind → Refuses kind bytes line → EndsWith call (refused_status kind)
  refused_always kind name bytes line given short refuses =
      (refused_exactly (program call.devices) (plan_of call.devices) (lawful_program call.devices) call.told call.words call.old call.new call.result ends kind).always name bytes line given
      (record { short = short; refuses = refuses })

  pub bad_machine_exactly : BadMachineExactly call
  bad_machine_exactly = record {
    only = λ is. of_kind (finds_fault MachineFile is);
    always = λ name bytes error given short faulty.
        refused_always MachineFile name bytes (machine_fault_line error) given short (record { error = error; faulty = faulty; line_is = refl });
  }
    where
      of_kind : (kind : Kind) × (refused_status kind ≡ BadMachine) × FindsFault kind call → FindsFault MachineFile call
      of_kind (MachineFile, is, found) = found
      of_kind (Source machine, is, found) = absurd cc
      of_kind (Certificate machine, is, found) = absurd cc
      of_kind (Script machine, is, found) = absurd cc

  pub bad_source_exactly : BadSourceExactly call
  bad_source_exactly = record {
    only = λ is. of_kind (finds_fault (Source standard_machine) is);
    always = λ machine name bytes error given short faulty.
        refused_always (Source machine) name bytes (fault_line error) given short (record { error = error; faulty = faulty; line_is = refl });
  }
    where
      of_kind : (kind : Kind) × (refused_status kind ≡ BadSource) × FindsFault kind call → (machine : Machine) × FindsFault (Source machine) call
      of_kind (Source machine, is, found) = (machine, found)
      of_kind (MachineFile, is, found) = absurd cc
      of_kind (Certificate machine, is, found) = absurd cc
      of_kind (Script machine, is, found) = absurd cc

  pub bad_cert_exactly : BadCertExactly call
  bad_cert_exactly = record {
    only = λ is. of_kind (finds_fault (Certificate standard_machine) is);
    always = λ machine name bytes line kind given short faulty.
        refused_always (Certificate machine) name bytes (certificate_fault_line (certificate.At line kind)) given short
        (record { number = line; kind = kind; faulty = faulty; line_is = refl });
  }
    where
      of_kind : (kind : Kind) × (refused_status kind ≡ BadCert) × FindsFault kind call → (machine : Machine) × FindsFault (Certificate machine) call
      of_kind (Certificate machine, is, found) = (machine, found)
      of_kind (MachineFile, is, found) = absurd cc
      of_kind (Source machine, is, found) = absurd cc
      of_kind (Script machine, is, found) = absurd cc

  pub bad_text_exactly : BadTextExactly call
  bad_text_exactly = record {
    only = λ is. of_kind (finds_fault (Script standard_machine) is);
    always = λ machine name bytes line kind given short faulty.
        refused_always (Script machine) name bytes (script_fault_line (At line kind)) given short
        (record { number = line; kind = kind; faulty = faulty; line_is = refl });
  }
    where
      of_kind : (kind : Kind) × (refused_status kind ≡ BadText) × FindsFault kind call → (machine : Machine) × FindsFault (Script machine) call
      of_kind (Script machine, is, found) = (machine, found)
      of_kind (MachineFile, is, found) = absurd cc
      of_kind (Source machine, is, found) = absurd cc
      of_kind (Certificate machine, is, found) = absurd cc
