-- What edits are worth that were made.
use Rattle.std.proofs.Common.{◌≡◌, ℕ, List, [], ◌∷◌, sym, ap, subst, ◌∙◌}
use Rattle.std.specs.Prelude.{All}
use Rattle.std.proofs.lemmas.List.Elements.{All-nil, All-cons, All-head, All-tail}
use Rattle.ags_cert.specs.Cert.{certificate_of}
use Rattle.ags_certread.proofs.SuitLemmas.{suits}
use Rattle.ags_check.specs.Judging.{Judging}
use Rattle.ags_domain.specs.MeaningLaws.{value_lawful}
use Rattle.ags_domain.specs.Value.{value_meaning}
use Rattle.ags_domain.specs.declared.values.Value.{Value}
use Rattle.ags_edits.specs.Text.{IsLawful}
use Rattle.ags_edits.specs.declared.edits.Edit.{Edit}
use Rattle.ags_edits.proofs.MeaningLemmas.{lawful_edits}
use Rattle.ags_ports.specs.Machine.{IsMachine}
use Rattle.ags_ports.specs.declared.machines.Machine.{Machine}
use Rattle.ags_recheck.specs.Told.{AreTold}
use Rattle.ags_recheck.specs.declared.telling.Told.{Told}
use Rattle.ags_recheck.specs.declared.telling.Told.TheVariants.{Made, NotMade}
use Rattle.ags_recheck.proofs.StandingLemmas.{Stands, stands_still}
use Rattle.ags_recheck.proofs.TellingLemmas.{told_stays}
use Rattle.ags_safe.proofs.RunLemmas.{safe}
use Rattle.ags_safe.specs.Certificate.{Suits}
use Rattle.ags_verdict.proofs.VerdictLemmas.{accepted_of}
use Rattle.ags_verdict.specs.Verdict.{IsVerdict}
use Rattle.ags_verdict.specs.declared.verdicts.Verdict.{Verdict}
use Rattle.ags_verdict.specs.declared.verdicts.Verdict.TheVariants.{Certified, Refused}
use Rattle.ags_program.specs.declared.status.Status.TheVariants.{Done}
use Rattle.ags_program.specs.Work.{edits_status, verdict_status}
use Rattle.ags_top.specs.Outcome.{IsEditedOn, IsMade}
use Rattle.ags_top.specs.ThirdFile.{text_of_edits, IsJudgedWith}

-- What stands in the end, where the status is Done: each edit was made, and what they leave is certified.
pub record EndsCertified (after : Judging) (told : List Told) : Type 0 where
  pub each_made : All IsMade told
  pub rows : ℕ
  pub cases : ℕ
  pub certified : IsVerdict value_meaning after.machine after.image (certificate_of after.cert) (Certified rows cases)
  pub stands : Stands after.machine after.cert

by_verdict : (now : Judging) (verdict : Verdict Value) → IsVerdict value_meaning now.machine now.image (certificate_of now.cert) verdict → Stands now.machine now.cert
    → Done ≡ verdict_status verdict → EndsCertified now []
by_verdict now (Certified rows cases) is stands done = record { each_made = All-nil IsMade; rows = rows; cases = cases; certified = is; stands = stands }
by_verdict now (Refused refusal) is stands done = absurd cc

one_more : (after : Judging) (verdict : Verdict Value) (more : List Told) → EndsCertified after more → EndsCertified after (Made verdict ∷ more)
one_more after verdict more so = record {
  each_made = All-cons IsMade (Made verdict) more tt so.each_made;
  rows = so.rows;
  cases = so.cases;
  certified = so.certified;
  stands = so.stands;
}

ends_certified : (now : Judging) (edits : List Edit) (verdict : Verdict Value) (told : List Told) (after : Judging) → All IsLawful edits
    → IsVerdict value_meaning now.machine now.image (certificate_of now.cert) verdict → Stands now.machine now.cert → AreTold now edits told after
    → Done ≡ edits_status (verdict_status verdict) told → EndsCertified after told
ends_certified now [] verdict [] after lawful is stands are done = subst (λ (j : Judging). EndsCertified j []) (sym are) (by_verdict now verdict is stands done)
ends_certified now [] verdict (told ∷ more) after lawful is stands are done = absurd are
ends_certified now (e ∷ edits) verdict [] after lawful is stands are done = absurd are
ends_certified now (e ∷ edits) verdict (Made further ∷ more) after lawful is stands are done =
    one_more after further more (ends_certified are.0 edits further more after (All-tail IsLawful e edits lawful) are.1.1
    (stands_still now are.0 e (Made further) (All-head IsLawful e edits lawful) are.1 stands) are.2 done)
ends_certified now (e ∷ edits) verdict (NotMade error ∷ more) after lawful is stands are done = absurd cc

machines_stay : (now : Judging) (edits : List Edit) (told : List Told) (after : Judging) → AreTold now edits told after → after.machine ≡ now.machine
machines_stay now [] [] after are = ap (λ (j : Judging). j.machine) are
machines_stay now [] (told ∷ more) after are = absurd are
machines_stay now (e ∷ edits) [] after are = absurd are
machines_stay now (e ∷ edits) (told ∷ more) after are = machines_stay are.0 edits more after are.2 ∙ told_stays now are.0 e told are.1

-- where it is done, each edit was made, and every run of what they leave is safe
module _ (machine : Machine) (source certificate edits text : List ℕ) (valid : IsMachine machine) (its : IsJudgedWith text_of_edits machine source certificate edits text Done) where
  ends : EndsCertified its.judgement.comes.after its.judgement.comes.told
  ends = ends_certified (record { machine = machine; image = its.judgement.image; cert = its.cert }) its.value its.judgement.verdict its.judgement.comes.told its.judgement.comes.after
      (lawful_edits edits its.value its.holds) its.judgement.is_verdict
      (its.is_cert.is_stated.is_cert, suits machine certificate its.cert its.is_cert) its.judgement.comes.are_told its.judgement.comes.status_is

  pub safe_where_done : IsEditedOn machine source certificate edits text
  safe_where_done =
      let after = its.judgement.comes.after in
      let same : after.machine ≡ machine = machines_stay (record { machine = machine; image = its.judgement.image; cert = its.cert }) its.value its.judgement.comes.told after
      its.judgement.comes.are_told in
      let certified = subst (λ (m : Machine). IsVerdict value_meaning m after.image (certificate_of after.cert) (Certified ends.rows ends.cases)) same ends.certified in
      let accepted = accepted_of value_meaning machine after.image (certificate_of after.cert) ends.rows ends.cases certified in
      record {
        valid = valid;
        defined = its.defined;
        defines = its.defines;
        image = its.judgement.image;
        image_is = its.judgement.image_is;
        cert = its.cert;
        is_cert = its.is_cert;
        made = its.value;
        are_edits = its.holds;
        told = its.judgement.comes.told;
        after = after;
        are_told = its.judgement.comes.are_told;
        each_made = ends.each_made;
        accepted = accepted;
        safe = safe value_meaning value_lawful machine after.image (certificate_of after.cert) valid ends.stands.0.certificate
            (subst (λ (m : Machine). Suits value_meaning m (certificate_of after.cert)) same ends.stands.1) accepted;
        verdict = its.judgement.verdict;
        is_verdict = its.judgement.is_verdict;
        text_is = its.judgement.comes.text_is;
      }
