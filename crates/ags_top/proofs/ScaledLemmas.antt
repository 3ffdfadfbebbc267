-- What scales are worth.
use Rattle.std.proofs.Common.{◌≡◌, ℕ, List, ◌++◌, ap}
use Rattle.ags_scale.proofs.AcceptedLemmas.{of_agree}
use Rattle.ags_scale.proofs.TaggedLemmas.{rows_keep, scales_kept}
use Rattle.ags_scale.specs.Scaled.{IsScaled}
use Rattle.ags_scale.specs.declared.answers.Scaled.{Scaled}
use Rattle.ags_scale.specs.declared.answers.Scaled.TheVariants.{Agree}
use Rattle.ags_cert.specs.Cert.{certificate_of}
use Rattle.ags_domain.specs.MeaningLaws.{value_lawful}
use Rattle.ags_domain.specs.Value.{value_meaning}
use Rattle.ags_ports.specs.Machine.{IsMachine}
use Rattle.ags_ports.specs.declared.machines.Machine.{Machine}
use Rattle.ags_program.specs.declared.status.Status.TheVariants.{Done}
use Rattle.ags_program.specs.Text.{scaled_line, verdict_line}
use Rattle.ags_program.specs.Work.{scaled_status}
use Rattle.ags_top.specs.Outcome.{IsTaggedOn}
use Rattle.ags_top.specs.ThirdFile.{text_of_scales, IsJudgedWith}
use Rattle.ags_top.proofs.ThirdFileLemmas.{kept_with}

-- where it is done, the scales are kept
module _ (machine : Machine) (source certificate scales text : List ℕ) (valid : IsMachine machine)
    (its : IsJudgedWith text_of_scales machine source certificate scales text Done) where
  agree : (rows cases : ℕ) → IsScaled machine its.judgement.image (certificate_of its.cert) its.value (Agree rows cases)
      → text ≡ verdict_line its.judgement.verdict ++ scaled_line (Agree rows cases) → IsTaggedOn machine source certificate scales text
  agree rows cases is text_is =
      let image = its.judgement.image in
      let cert = certificate_of its.cert in
      let are = of_agree machine image cert its.value rows cases is in
      kept_with text_of_scales _ _ machine source certificate scales text valid its rows cases (scaled_line (Agree rows cases)) is.0
      (λ accepted all_safe. scales_kept value_meaning value_lawful machine image cert its.value valid
      (rows_keep value_meaning value_lawful machine image cert its.value valid are) are.start all_safe)
      (λ counted. ap (λ (n : ℕ). scaled_line (Agree n cases)) counted) text_is

  by_answer : (answer : Scaled) → IsScaled machine its.judgement.image (certificate_of its.cert) its.value answer → Done ≡ scaled_status answer
      → text ≡ verdict_line its.judgement.verdict ++ scaled_line answer → IsTaggedOn machine source certificate scales text
  by_answer (Agree rows cases) is done text_is = agree rows cases is text_is
  by_answer _ is done text_is = absurd cc

  pub tagged_where_done : IsTaggedOn machine source certificate scales text
  tagged_where_done = by_answer its.judgement.comes.answer its.judgement.comes.is_scaled its.judgement.comes.status_is its.judgement.comes.text_is
