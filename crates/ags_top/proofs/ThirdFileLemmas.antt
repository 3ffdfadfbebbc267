-- What a third file after a source and a certificate is worth.
use Rattle.std.proofs.Common.{◌≡◌, ℕ, List, ◌++◌, length, Option, ap, subst, sym, ◌∙◌}
use Rattle.ags_asm.specs.Source.{Defines}
use Rattle.ags_cert.specs.Cert.{Stated, certificate_of}
use Rattle.ags_cert.specs.Text.{IsCertOf}
use Rattle.ags_certread.proofs.SuitLemmas.{suits}
use Rattle.ags_domain.specs.MeaningLaws.{value_lawful}
use Rattle.ags_domain.specs.Value.{value_meaning}
use Rattle.ags_domain.specs.declared.values.Value.{Value as DomainValue}
use Rattle.ags_outside.specs.ToldFile.{Stored}
use Rattle.ags_plan.proofs.WalkLemmas.{told_bytes}
use Rattle.ags_plan.specs.Plan.{Plan}
use Rattle.ags_plan.specs.Walk.{Told, Agrees, LeadsTo}
use Rattle.ags_ports.specs.Machine.{IsMachine}
use Rattle.ags_ports.specs.declared.machines.Machine.{Machine}
use Rattle.ags_program.specs.declared.status.Status.{Status}
use Rattle.ags_program.specs.declared.status.Status.TheVariants.{Done}
use Rattle.ags_program.specs.Files.{Value, Holds}
use Rattle.ags_program.specs.Program.{program, command_plan}
use Rattle.ags_program.specs.Text.{verdict_line}
use Rattle.ags_program.specs.Work.{Work, IsJudgementOf, Makes}
use Rattle.ags_safe.proofs.RunLemmas.{safe}
use Rattle.ags_safe.specs.Accepted.{Accepted}
use Rattle.ags_safe.specs.Safe.{Safe}
use Rattle.ags_top.specs.ThirdFile.{ThirdFile, third_plan, IsJudgedWith, IsKeptWith}
use Rattle.ags_verdict.proofs.VerdictLemmas.{accepted_of, counted_of, verdict_one}
use Rattle.ags_verdict.specs.Verdict.{IsVerdict}
use Rattle.ags_verdict.specs.declared.verdicts.Verdict.{Verdict}
use Rattle.ags_verdict.specs.declared.verdicts.Verdict.TheVariants.{Certified}

-- the plan of its command is the one that reads it
abbrev pub IsPlanned : ThirdFile → Type 0
IsPlanned file = (machine : Machine) (source certificate third : List ℕ)
    → command_plan machine (file.command source certificate third) ≡ third_plan file machine source certificate third

-- what comes of a told third file for a told source under a told certificate, by the way to its work
judged_on_way : (file : ThirdFile) (told : Told) (machine : Machine) (source certificate third source_bytes certificate_bytes third_bytes text : List ℕ)
    (status : Status) (work : Work)
    → told source ≡ Stored source_bytes → told certificate ≡ Stored certificate_bytes → told third ≡ Stored third_bytes
    → LeadsTo program Agrees told (third_plan file machine source certificate third) work → Makes work text status
    → IsJudgedWith file machine source_bytes certificate_bytes third_bytes text status
judged_on_way file told machine source certificate third source_bytes certificate_bytes third_bytes text status work is too also
    (assembly, (there, agrees, holds), (stated, (read, seen, has), (value, (found, sight, fits), same))) makes =
    let here = told_bytes (told source) source_bytes there is agrees in
    let rows = length stated.rows in
    let made : IsJudgementOf (record { machine = machine; assembly = assembly; cert = stated }) (file.sequel machine rows value) text status =
    subst (λ (w : Work). Makes w text status) (sym same) makes in
    record {
      defined = assembly.defined;
      defines = subst (λ (b : List ℕ). Defines machine.codes b assembly.defined) here holds.holds.defines;
      cert = stated;
      is_cert = subst (λ (b : List ℕ). IsCertOf machine.ports b stated) (told_bytes (told certificate) certificate_bytes read too seen) has.holds;
      value = value;
      holds = subst (λ (b : List ℕ). Holds (file.kind machine rows) b value) (told_bytes (told third) third_bytes found also sight) fits.holds;
      judgement =
          subst
          (λ (b : List ℕ). IsJudgementOf (record { machine = machine; assembly = record { bytes = b; defined = assembly.defined }; cert = stated })
          (file.sequel machine rows value) text status) (holds.holds.bytes_are ∙ here) made;
    }

-- the same by the plan of its command
pub judged_with : (file : ThirdFile) → IsPlanned file
    → (told : Told) (machine : Machine) (source certificate third source_bytes certificate_bytes third_bytes text : List ℕ) (status : Status) (work : Work)
    → told source ≡ Stored source_bytes → told certificate ≡ Stored certificate_bytes → told third ≡ Stored third_bytes
    → LeadsTo program Agrees told (command_plan machine (file.command source certificate third)) work → Makes work text status
    → IsJudgedWith file machine source_bytes certificate_bytes third_bytes text status
judged_with file planned told machine source certificate third source_bytes certificate_bytes third_bytes text status work is too also leads makes =
    judged_on_way file told machine source certificate third source_bytes certificate_bytes third_bytes text status work is too also
    (subst (λ (p : Plan program). LeadsTo program Agrees told p work) (planned machine source certificate third) leads) makes

-- where it is done, the certificate is accepted, every run is safe, and what follows of that for the value is kept
pub kept_with : (file : ThirdFile)
    (Keeps : (machine : Machine) (image : List (Option ℕ)) (cert : Stated) → Value (file.kind machine (length cert.rows)) → Type 0)
    (IsLine : (machine : Machine) (cert : Stated) → Value (file.kind machine (length cert.rows)) → (cases : ℕ) (line : List ℕ) → Type 0)
    (machine : Machine) (source certificate third text : List ℕ) → IsMachine machine
    → (its : IsJudgedWith file machine source certificate third text Done) (rows cases : ℕ) (line : List ℕ)
    → IsVerdict value_meaning machine its.judgement.image (certificate_of its.cert) (Certified rows cases)
    → (Accepted value_meaning machine its.judgement.image (certificate_of its.cert)
    → Safe value_meaning machine its.judgement.image (certificate_of its.cert) → Keeps machine its.judgement.image its.cert its.value)
    → (rows ≡ length its.cert.rows → IsLine machine its.cert its.value cases line)
    → text ≡ verdict_line its.judgement.verdict ++ line → IsKeptWith file Keeps IsLine machine source certificate third text
kept_with file Keeps IsLine machine source certificate third text valid its rows cases line is keeps line_is text_is =
    let image = its.judgement.image in
    let cert = certificate_of its.cert in
    let counted = counted_of value_meaning machine image cert rows cases is in
    let accepted = accepted_of value_meaning machine image cert rows cases is in
    let all_safe = safe value_meaning value_lawful machine image cert valid its.is_cert.is_stated.is_cert.certificate
    (suits machine certificate its.cert its.is_cert) accepted in
    let one = verdict_one value_meaning machine image cert value_lawful valid its.judgement.verdict (Certified rows cases) its.judgement.is_verdict is in
    record {
      valid = valid;
      defined = its.defined;
      defines = its.defines;
      image = image;
      image_is = its.judgement.image_is;
      cert = its.cert;
      is_cert = its.is_cert;
      value = its.value;
      holds = its.holds;
      accepted = accepted;
      safe = all_safe;
      kept = keeps accepted all_safe;
      cases = cases;
      verdict = subst (λ (n : ℕ). IsVerdict value_meaning machine image cert (Certified n cases)) counted.0 is;
      line = line;
      line_is = line_is counted.0;
      text_is = text_is
          ∙ ap (λ (v : Verdict DomainValue). verdict_line v ++ line) one
          ∙ ap (λ (n : ℕ). verdict_line (Certified n cases) ++ line) counted.0;
    }
