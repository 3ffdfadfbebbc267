use Rattle.std.proofs.Common.{◌≡◌, ℕ, subst}
use Rattle.ags_domain.specs.Value.{value_meaning}
use Rattle.ags_domain.specs.MeaningLaws.{value_lawful}
use Rattle.ags_certtype.specs.Cert.{certificate_of}
use Rattle.ags_scale.specs.Scaled.{IsScaled}
use Rattle.ags_scale.specs.declared.answers.Scaled.{Scaled}
use Rattle.ags_scale.specs.declared.answers.Scaled.TheVariants.{Agree}
use Rattle.ags_scale.proofs.AcceptedLemmas.{of_agree, to_agree}
use Rattle.ags_scale.proofs.TaggedLemmas.{rows_keep, scales_kept}
use Rattle.ags_scale.proofs.judging.judge.Goals as goal

pub returns : goal.returns
returns g c =
    let machine = c.args.machine.now in
    let image = c.args.image.now in
    let cert = certificate_of c.args.cert.now in
    let scales = c.args.scales.now in
    let accepted = λ (rows cases : ℕ). λ (is : c.answer.result ≡ Agree rows cases).
    of_agree machine image cert scales rows cases (subst (λ (a : Scaled). IsScaled machine image cert scales a) is c.answer.ensures.scaled) in
    record {
      scaled = c.answer.ensures.scaled;
      accepted = accepted;
      agree = λ are. to_agree machine image cert scales c.machine_is_made_of_tables.ensures c.answer.result are c.answer.ensures.scaled;
      safe = c.answer.ensures.safe;
      kept = λ rows cases is suits.
          let are = accepted rows cases is in
          scales_kept value_meaning value_lawful machine image cert scales c.machine_is_made_of_tables.ensures
          (rows_keep value_meaning value_lawful machine image cert scales c.machine_is_made_of_tables.ensures are) are.start (c.answer.ensures.safe rows cases is suits);
      steps = c.answer.ensures.steps;
    }
