-- Where a run of `guard` wrote that the certificate is certified, it is, whatever the run ended with.
use Rattle.std.proofs.Common.{◌≡◌, ℕ, List, [], ◌++◌, length, get_or, Option, Some, refl, sym, ap, ◌∙◌, inl, inr, arith, append_assoc, append-nil, length-append}
use Rattle.std.specs.Prelude.{codes}
use Rattle.std.specs.Fmt.{decimal}
use Rattle.std.proofs.lemmas.List.{append_cancel_left}
use Rattle.ags_command.specs.Command.{Guard}
use Rattle.ags_outside.specs.Sink.{appended, WroteFront}
use Rattle.ags_plan.specs.declared.causes.Cause.{Cause}
use Rattle.ags_plan.specs.declared.causes.Cause.TheVariants.{Content, Absence, ReadFault, WriteFault, Memory}
use Rattle.ags_plan.specs.Plan.{Plan, End, AbsentAt, LongAt, RefusedAt, WorkAt, absent_line, long_line}
use Rattle.ags_plan.specs.Walk.{Told, Agrees, EndsAt}
use Rattle.ags_plan.specs.Answer.{ComesWith, IsAnswer}
use Rattle.ags_plan.specs.Outcome.{Answered, TookPrefix, Ends, EndsBy}
use Rattle.ags_plan.proofs.WalkLemmas.{way_to_refused}
use Rattle.ags_certtext.specs.declared.cert_error.CertError.TheVariants as certificate
use Rattle.ags_listing.specs.declared.list_error.ListError.{ListError}
use Rattle.ags_listing.specs.declared.list_error.ListError.TheVariants.{BadLine, PlaceTwice}
use Rattle.ags_listing.specs.declared.list_error.ListError.TheVariants as listing
use Rattle.ags_machfile.specs.declared.mach_error.MachError.{MachError}
use Rattle.ags_machfile.specs.declared.mach_error.MachError.TheVariants.{NotToml, MissingKey, BadValue, SameCode, SamePort, NoMemory}
use Rattle.ags_script.specs.declared.script_errors.ScriptError.TheVariants.{At}
use Rattle.ags_edits.specs.declared.edits_errors.EditsError.TheVariants as edits
use Rattle.ags_tags.specs.declared.scale_errors.ScaleError.TheVariants as scales
use Rattle.ags_times.specs.declared.budget_errors.BudgetError.TheVariants as times
use Rattle.ags_verdict.specs.declared.verdicts.Verdict.TheVariants.{Certified, Refused}
use Rattle.ags_ports.specs.declared.machines.Machine.{Machine}
use Rattle.ags_program.specs.declared.status.Status.{Status}
use Rattle.ags_program.specs.Files.{Kind, MachineFile, Source, Listing, Certificate, Script, Times, ScaleTags, EditList, Refuses}
use Rattle.ags_top.specs.Outcome.{Call, IsDeclaredOn, IsAcceptedPlayOn, SafeWhereCertifiedIsWritten}
use Rattle.ags_program.specs.Program.{program, plan_of}
use Rattle.ags_program.specs.Text.{certificate_fault_line, certified_word, edits_fault_line, fault_line, listing_fault_line, machine_fault_line, scales_fault_line, script_fault_line, times_fault_line, verdict_line}
use Rattle.ags_program.specs.Work.{Work, Makes}
use Rattle.ags_top.proofs.DeclaredLemmas.{declared_of}
use Rattle.ags_top.proofs.ThirdFileLemmas.{judged_with}
use Rattle.ags_top.specs.ThirdFile.{guarded_script}
use Rattle.ags_top.proofs.MainLemmas.{way_asked}

-- the text begins as the line of a certificate that is certified does
abbrev BeginsCertified : (text : List ℕ) → Type 0
BeginsCertified text = (behind : List ℕ) × (text ≡ certified_word ++ behind)

-- the line itself does
pub line_begins : (rows cases : ℕ) → (behind : List ℕ) × (verdict_line (Certified rows cases) ≡ certified_word ++ behind)
line_begins rows cases = (codes " ROWS " ++ decimal rows ++ codes " CASES " ++ decimal cases ++ codes "\n", refl)

-- ---- no other line begins so: it has another letter at that position

letter_of : (position : ℕ) (text behind : List ℕ) → text ≡ certified_word ++ behind → get_or text position 0 ≡ get_or (certified_word ++ behind) position 0
letter_of position text behind is = ap (λ (t : List ℕ). get_or t position 0) is

machine_line_is_other : (error : MachError) → BeginsCertified (machine_fault_line error) → ⊥
machine_line_is_other NotToml (behind, is) = absurd (omega (arith, letter_of 0 (machine_fault_line NotToml) behind is))
machine_line_is_other (MissingKey which) (behind, is) = absurd (omega (arith, letter_of 0 (machine_fault_line (MissingKey which)) behind is))
machine_line_is_other (BadValue which) (behind, is) = absurd (omega (arith, letter_of 0 (machine_fault_line (BadValue which)) behind is))
machine_line_is_other (SameCode first second) (behind, is) = absurd (omega (arith, letter_of 0 (machine_fault_line (SameCode first second)) behind is))
machine_line_is_other (SamePort address) (behind, is) = absurd (omega (arith, letter_of 0 (machine_fault_line (SamePort address)) behind is))
machine_line_is_other NoMemory (behind, is) = absurd (omega (arith, letter_of 0 (machine_fault_line NoMemory) behind is))

listing_line_is_other : (error : ListError) → BeginsCertified (listing_fault_line error) → ⊥
listing_line_is_other (BadLine line) (behind, is) = absurd (omega (arith, letter_of 0 (listing_fault_line (BadLine line)) behind is))
listing_line_is_other (PlaceTwice line location) (behind, is) = absurd (omega (arith, letter_of 0 (listing_fault_line (PlaceTwice line location)) behind is))
listing_line_is_other listing.NoMemory (behind, is) = absurd (omega (arith, letter_of 0 (listing_fault_line listing.NoMemory) behind is))

refused_line_is_other : (kind : Kind) (bytes line : List ℕ) → Refuses kind bytes line → BeginsCertified line → ⊥
refused_line_is_other MachineFile bytes line refuses (behind, is) = machine_line_is_other refuses.error (behind, sym refuses.line_is ∙ is)
refused_line_is_other (Source machine) bytes line refuses (behind, is) = absurd (omega (arith, letter_of 0 (fault_line refuses.error) behind (sym refuses.line_is ∙ is)))
refused_line_is_other Listing bytes line refuses (behind, is) = listing_line_is_other refuses.error (behind, sym refuses.line_is ∙ is)
refused_line_is_other (Certificate machine) bytes line refuses (behind, is) =
    absurd (omega (arith, letter_of 7 (certificate_fault_line (certificate.At refuses.number refuses.kind)) behind (sym refuses.line_is ∙ is)))
refused_line_is_other (Script machine) bytes line refuses (behind, is) =
    absurd (omega (arith, letter_of 0 (script_fault_line (At refuses.number refuses.kind)) behind (sym refuses.line_is ∙ is)))
refused_line_is_other (Times rows) bytes line refuses (behind, is) =
    absurd (omega (arith, letter_of 0 (times_fault_line (times.At refuses.number refuses.kind)) behind (sym refuses.line_is ∙ is)))
refused_line_is_other (ScaleTags machine rows) bytes line refuses (behind, is) =
    absurd (omega (arith, letter_of 0 (scales_fault_line (scales.At refuses.number refuses.kind)) behind (sym refuses.line_is ∙ is)))
refused_line_is_other EditList bytes line refuses (behind, is) =
    absurd (omega (arith, letter_of 0 (edits_fault_line (edits.At refuses.number refuses.kind)) behind (sym refuses.line_is ∙ is)))

-- the answer that begins so comes of a work
certified_work : (told : Told) (plan : Plan program) (status : Status) (end : End program) (text : List ℕ) → EndsAt program Agrees told plan end
    → ComesWith program end text status → BeginsCertified text → (work : Work) × EndsAt program Agrees told plan (WorkAt work) × Makes work text status
certified_work told plan status (AbsentAt name) text ends comes (behind, is) = absurd (omega (arith, letter_of 0 (absent_line name) behind (sym comes.0 ∙ is)))
certified_work told plan status (LongAt name limit) text ends comes (behind, is) = absurd (omega (arith, letter_of 0 (long_line name limit) behind (sym comes.0 ∙ is)))
certified_work told plan status (RefusedAt line refused) text ends comes (behind, is) =
    let (kind, name, bytes, given, refuses, same) = way_to_refused program told plan line refused ends in
    absurd (refused_line_is_other kind bytes line refuses.refuses (behind, sym comes.0 ∙ is))
certified_work told plan status (WorkAt work) text ends comes begins = (work, ends, comes)

-- where the play begins so, the certificate isn't refused
safe_of_declared : (machine : Machine) (source script certificate text : List ℕ) (status : Status) → BeginsCertified text
    → IsDeclaredOn machine source script certificate text status → IsAcceptedPlayOn machine source script certificate text status
safe_of_declared machine source script certificate text status (behind, is) declared = record {
  defined = declared.defined;
  defines = declared.defines;
  image = declared.image;
  image_is = declared.image_is;
  cert = declared.cert;
  is_cert = declared.is_cert;
  commands = declared.commands;
  is_script = declared.is_script;
  comes = elim declared.comes [
    | inl refused ↦ absurd (omega (arith, letter_of 0 (verdict_line (Refused refused.refusal)) behind (sym refused.text_is ∙ is)))
    | inr play ↦ play
  ];
}

-- ---- what the sink took is a front of an answer that begins so

module _ (Answer : (text : List ℕ) → Status → Type 0) (old new : Option (List ℕ)) (held behind : List ℕ) (holds : old ≡ Some held)
    (took : new ≡ Some (held ++ (certified_word ++ behind))) where
  -- the answer, and what of it was taken
  abbrev Taken : Type 0
  Taken = (text : List ℕ) × (status : Status) × Answer text status × BeginsCertified text × WroteFront old new text

  of_prefix : TookPrefix Answer old new → Taken
  of_prefix prefix =
      let wrote = prefix.prefix.wrote in
      let same : Some (held ++ wrote.done) ≡ Some (held ++ (certified_word ++ behind)) =
      sym (ap (λ (o : Option (List ℕ)). appended o wrote.done) holds) ∙ sym wrote.told ∙ took in
      let lists : held ++ wrote.done ≡ held ++ (certified_word ++ behind) = cc in
      let begins : wrote.done ≡ certified_word ++ behind = append_cancel_left held wrote.done (certified_word ++ behind) lists in (
        prefix.text,
        prefix.status,
        prefix.answer,
        (
          behind ++ prefix.prefix.rest,
          sym wrote.whole ∙ ap (λ (d : List ℕ). d ++ prefix.prefix.rest) begins ∙ append_assoc certified_word behind prefix.prefix.rest,
        ),
        prefix.prefix,
      )

  of_answered : (status : Status) → Answered Answer old new status → Taken
  of_answered status so = of_prefix (record {
    status = status;
    text = so.text;
    answer = so.answer;
    prefix = record { rest = []; wrote = record { done = so.text; told = so.sent; whole = append-nil so.text } };
  })

  -- it took something
  not_nothing : new ≡ old → ⊥
  not_nothing same =
      let lists : held ++ (certified_word ++ behind) ≡ held = cc in absurd (omega (arith, ap length lists, length-append held (certified_word ++ behind)))

  taken : (cause : Cause) (status : Status) → EndsBy cause Answer old new status → Taken
  taken Content status ends = of_answered status ends
  taken Absence status ends = of_answered status ends
  taken ReadFault status ends = absurd (not_nothing ends)
  taken WriteFault status ends = of_prefix ends
  taken Memory status ends = of_prefix ends

pub safe_where_certified_is_written : (call : Call) → Ends program (IsAnswer program call.told (plan_of call.arguments)) call.old call.new call.result
    → SafeWhereCertifiedIsWritten call
safe_where_certified_is_written call ends source script certificate source_bytes script_bytes certificate_bytes held behind machine_file asked known also too holds took =
    let (text, status, answer, begins, front) = taken (IsAnswer program call.told (plan_of call.arguments)) call.old call.new held behind holds took (program.cause call.result) call.result ends in
    let (work, found, makes) = certified_work call.told (plan_of call.arguments) status answer.end text answer.ends answer.comes begins in
    let (machine, machine_is, valid, way) = way_asked call ends machine_file (Guard source script certificate) work asked found in
    let guarded = judged_with guarded_script (λ m s c t. refl) call.told machine source certificate script source_bytes certificate_bytes script_bytes text status work known too also way makes in
    let declared = declared_of machine source_bytes script_bytes certificate_bytes text status valid guarded in
    (machine, machine_is, (text, status, safe_of_declared machine source_bytes script_bytes certificate_bytes text status begins declared, front))
