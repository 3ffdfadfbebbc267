-- Where a call wrote that the certificate is certified, it is, whatever the call ended with.
use Rattle.std.proofs.Common.{◌≡◌, ℕ, List, [], ◌++◌, length, get_or, Option, Some, sym, ap, subst, ◌∙◌, arith, append_assoc, append-nil, length-append}
use Rattle.std.proofs.lemmas.List.{append_cancel_left}
use Rattle.ags_benchscript.specs.declared.commands.BenchCommand.{BenchCommand}
use Rattle.ags_cert.specs.Cert.{certificate_of}
use Rattle.ags_certtext.specs.declared.cert_error.CertError.TheVariants as certificate
use Rattle.ags_domain.specs.Value.{value_meaning}
use Rattle.ags_domain.specs.declared.values.Value.{Value}
use Rattle.ags_machfile.specs.declared.mach_error.MachError.{MachError}
use Rattle.ags_machfile.specs.declared.mach_error.MachError.TheVariants.{NotToml, MissingKey, BadValue, SameCode, SamePort, NoMemory}
use Rattle.ags_outside.specs.Sink.{appended}
use Rattle.ags_plan.specs.Answer.{ComesWith, IsAnswer}
use Rattle.ags_plan.specs.declared.causes.Cause.{Cause}
use Rattle.ags_plan.specs.declared.causes.Cause.TheVariants.{Content, Absence, ReadFault, WriteFault, Memory}
use Rattle.ags_plan.specs.Outcome.{Answered, TookPrefix, Ends, EndsBy}
use Rattle.ags_plan.specs.Plan.{End, AbsentAt, LongAt, RefusedAt, WorkAt, absent_line, long_line}
use Rattle.ags_plan.specs.Walk.{Agrees}
use Rattle.ags_plan.proofs.WalkLemmas.{way_to_refused}
use Rattle.ags_program.specs.Files.{Pair}
use Rattle.ags_program.specs.Text.{certificate_fault_line, certified_word, fault_line, machine_fault_line, script_fault_line, verdict_line, words_line}
use Rattle.ags_script.specs.declared.script_errors.ScriptError.TheVariants.{At}
use Rattle.ags_verdict.specs.Verdict.{IsVerdict}
use Rattle.ags_verdict.specs.declared.verdicts.Verdict.{Verdict}
use Rattle.ags_verdict.specs.declared.verdicts.Verdict.TheVariants.{Certified, Refused}
use Rattle.ags_program.specs.declared.status.Status.{Status}
use Rattle.ags_bench.specs.Files.{Kind, MachineFile, Source, Certificate, Script, Refuses}
use Rattle.ags_bench.specs.Outcome.{Call, EndsSo, IsCertified, CertifiedWhereWritten}
use Rattle.ags_bench.specs.Program.{program, plan_of}
use Rattle.ags_bench.specs.Work.{Work, NoForm, DrivePair, IsBenchOf, ComesOfVerdict, Makes}
use Rattle.ags_bench.proofs.CertifiedLemmas.{certified, rows_are}

-- the text begins as the line of a certificate that is certified does
abbrev BeginsCertified : (text : List ℕ) → Type 0
BeginsCertified text = (behind : List ℕ) × (text ≡ certified_word ++ behind)

-- ---- no other line begins so: it has another letter at that position

letter_of : (position : ℕ) (text behind : List ℕ) → text ≡ certified_word ++ behind → get_or text position 0 ≡ get_or (certified_word ++ behind) position 0
letter_of position text behind is = ap (λ (t : List ℕ). get_or t position 0) is

machine_line_is_other : (error : MachError) → BeginsCertified (machine_fault_line error) → ⊥
machine_line_is_other NotToml (behind, is) = absurd (omega (arith, letter_of 0 (machine_fault_line NotToml) behind is))
machine_line_is_other (MissingKey which) (behind, is) = absurd (omega (arith, letter_of 0 (machine_fault_line (MissingKey which)) behind is))
machine_line_is_other (BadValue which) (behind, is) = absurd (omega (arith, letter_of 0 (machine_fault_line (BadValue which)) behind is))
machine_line_is_other (SameCode first second) (behind, is) = absurd (omega (arith, letter_of 0 (machine_fault_line (SameCode first second)) behind is))
machine_line_is_other (SamePort address) (behind, is) = absurd (omega (arith, letter_of 0 (machine_fault_line (SamePort address)) behind is))
machine_line_is_other NoMemory (behind, is) = absurd (omega (arith, letter_of 0 (machine_fault_line NoMemory) behind is))

refused_line_is_other : (kind : Kind) (bytes line : List ℕ) → Refuses kind bytes line → BeginsCertified line → ⊥
refused_line_is_other MachineFile bytes line refuses (behind, is) = machine_line_is_other refuses.error (behind, sym refuses.line_is ∙ is)
refused_line_is_other (Source machine) bytes line refuses (behind, is) = absurd (omega (arith, letter_of 0 (fault_line refuses.error) behind (sym refuses.line_is ∙ is)))
refused_line_is_other (Certificate machine) bytes line refuses (behind, is) =
    absurd (omega (arith, letter_of 7 (certificate_fault_line (certificate.At refuses.number refuses.kind)) behind (sym refuses.line_is ∙ is)))
refused_line_is_other (Script machine) bytes line refuses (behind, is) =
    absurd (omega (arith, letter_of 0 (script_fault_line (At refuses.number refuses.kind)) behind (sym refuses.line_is ∙ is)))

-- ---- where a text begins so, the certificate is certified

module _ (call : Call) where
  of_verdict : (pair : Pair) (lines : List (ℕ × BenchCommand)) (text : List ℕ) (status : Status) → EndsSo Agrees call (WorkAt (DrivePair pair lines))
      → (made : IsBenchOf call.devices pair lines text status) → (verdict : Verdict Value) → IsVerdict value_meaning pair.machine made.image (certificate_of pair.cert) verdict
      → ComesOfVerdict pair.machine made.image pair.cert call.devices lines verdict text status → BeginsCertified text → IsCertified call
  of_verdict pair lines text status ends made (Certified rows cases) is comes begins =
      let same = rows_are call pair lines ends made.image made.image_is rows cases is in
      certified call pair lines ends made.image made.image_is cases
      (subst (λ (n : ℕ). IsVerdict value_meaning pair.machine made.image (certificate_of pair.cert) (Certified n cases)) same is)
  of_verdict pair lines text status ends made (Refused refusal) is comes (behind, begins) =
      absurd (omega (arith, letter_of 0 (verdict_line (Refused refusal)) behind (sym comes.0 ∙ begins)))

  of_work : (work : Work) (text : List ℕ) (status : Status) → EndsSo Agrees call (WorkAt work) → Makes call.devices work text status → BeginsCertified text → IsCertified call
  of_work NoForm text status ends makes (behind, begins) = absurd (omega (arith, letter_of 0 words_line behind (sym makes.0 ∙ begins)))
  of_work (DrivePair pair lines) text status ends makes begins = of_verdict pair lines text status ends makes makes.verdict makes.is_verdict makes.comes begins

  of_end : (end : End (program call.devices)) (text : List ℕ) (status : Status) → EndsSo Agrees call end → ComesWith (program call.devices) end text status → BeginsCertified text → IsCertified call
  of_end (AbsentAt name) text status ends comes (behind, is) = absurd (omega (arith, letter_of 0 (absent_line name) behind (sym comes.0 ∙ is)))
  of_end (LongAt name limit) text status ends comes (behind, is) = absurd (omega (arith, letter_of 0 (long_line name limit) behind (sym comes.0 ∙ is)))
  of_end (RefusedAt line refused) text status ends comes (behind, is) =
      let (kind, name, bytes, given, refuses, same) = way_to_refused (program call.devices) call.told (plan_of call.devices call.words) line refused ends in
      absurd (refused_line_is_other kind bytes line refuses.refuses (behind, sym comes.0 ∙ is))
  of_end (WorkAt work) text status ends comes begins = of_work work text status ends comes begins

  -- ---- what the sink took is a front of an answer that begins so

  abbrev Answers : (text : List ℕ) → Status → Type 0
  Answers text status = IsAnswer (program call.devices) call.told (plan_of call.devices call.words) text status

  module _ (held behind : List ℕ) (holds : call.old ≡ Some held) (took : call.new ≡ Some (held ++ (certified_word ++ behind))) where
    of_prefix : TookPrefix Answers call.old call.new → IsCertified call
    of_prefix prefix =
        let wrote = prefix.prefix.wrote in
        let same : Some (held ++ wrote.done) ≡ Some (held ++ (certified_word ++ behind)) =
        sym (ap (λ (o : Option (List ℕ)). appended o wrote.done) holds) ∙ sym wrote.told ∙ took in
        let lists : held ++ wrote.done ≡ held ++ (certified_word ++ behind) = cc in
        let begins : wrote.done ≡ certified_word ++ behind = append_cancel_left held wrote.done (certified_word ++ behind) lists in
        of_end prefix.answer.end prefix.text prefix.status prefix.answer.ends prefix.answer.comes (
          behind ++ prefix.prefix.rest,
          sym wrote.whole ∙ ap (λ (d : List ℕ). d ++ prefix.prefix.rest) begins ∙ append_assoc certified_word behind prefix.prefix.rest,
        )

    of_answered : (status : Status) → Answered Answers call.old call.new status → IsCertified call
    of_answered status so = of_prefix (record {
      status = status;
      text = so.text;
      answer = so.answer;
      prefix = record { rest = []; wrote = record { done = so.text; told = so.sent; whole = append-nil so.text } };
    })

    -- it took something
    not_nothing : call.new ≡ call.old → ⊥
    not_nothing same =
        let lists : held ++ (certified_word ++ behind) ≡ held = cc in absurd (omega (arith, ap length lists, length-append held (certified_word ++ behind)))

    taken : (cause : Cause) (status : Status) → EndsBy cause Answers call.old call.new status → IsCertified call
    taken Content status ends = of_answered status ends
    taken Absence status ends = of_answered status ends
    taken ReadFault status ends = absurd (not_nothing ends)
    taken WriteFault status ends = of_prefix ends
    taken Memory status ends = of_prefix ends

  pub certified_where_written : Ends (program call.devices) (IsAnswer (program call.devices) call.told (plan_of call.devices call.words)) call.old call.new call.result
      → CertifiedWhereWritten call
  certified_where_written ends held behind holds took = taken held behind holds took ((program call.devices).cause call.result) call.result ends
