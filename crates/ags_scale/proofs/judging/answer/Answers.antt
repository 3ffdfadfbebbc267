use Rattle.std.proofs.Common.{ℕ, refl, sym, subst, ◌∙◌}
use Rattle.std.proofs.lemmas.Bool.{false≢true}
use Rattle.ags_domain.specs.Value.{value_meaning}
use Rattle.ags_certtype.specs.Cert.{certificate_of}
use Rattle.ags_verdict.specs.Verdict.{IsVerdict}
use Rattle.ags_verdict.specs.declared.verdicts.Verdict.TheVariants.{Certified}
use Rattle.ags_scale.specs.Scaled.{IsScaled}
use Rattle.ags_scale.specs.declared.answers.Scaled.{Scaled}
use Rattle.ags_scale.proofs.JudgingLemmas.{told_scaled, told_is_no_agreement, mixed_is_no_agreement, unsafe_is_no_agreement, steps_once, steps_twice}
use Rattle.ags_scale.proofs.judging.answer.Goals as goal

pub tagged_rows-requires : goal.tagged_rows-requires
tagged_rows-requires g c = (c.check.ensures.accepted c.in-Certified.rows c.in-Certified.cases c.in-Certified.is).0

pub returns-then-not-is_start_tagged-clause-scaled : goal.returns-then-not-is_start_tagged-clause-scaled
returns-then-not-is_start_tagged-clause-scaled g c =
    (c.in-Certified.cases, (c.in-Certified.ensures.verdict.0, refl), λ start. false≢true (c.if-not-is_start_tagged.ensures.1 start))

pub returns-in-Ok-clause-scaled : goal.returns-in-Ok-clause-scaled
returns-in-Ok-clause-scaled g c = (c.in-Certified.ensures.verdict, c.if-not-is_start_tagged.ensures.0 refl, _, c.in-Ok.ensures.tagged)

pub returns-in-Ok-clause-safe : goal.returns-in-Ok-clause-safe
returns-in-Ok-clause-safe g c = λ rows cases is. c.check.ensures.safe c.in-Certified.rows c.in-Certified.cases c.in-Certified.is

pub returns-in-Err-clause-scaled : goal.returns-in-Err-clause-scaled
returns-in-Err-clause-scaled g c =
    let cert = certificate_of c.args.cert.now in
    subst (λ (a : Scaled). IsScaled c.args.machine.now c.args.image.now cert c.args.scales.now a) (sym c.answer_of.ensures)
    (told_scaled c.args.machine.now c.args.image.now cert c.args.scales.now c.in-Err.told.row c.in-Err.told.fault (record {
      cases = c.in-Certified.cases;
      certified = subst (λ (n : ℕ). IsVerdict value_meaning c.args.machine.now c.args.image.now cert (Certified n c.in-Certified.cases))
          (c.check.ensures.accepted c.in-Certified.rows c.in-Certified.cases c.in-Certified.is).1 c.in-Certified.ensures.verdict;
      start = c.if-not-is_start_tagged.ensures.0 refl;
      rows = c.in-Err.ensures.tagged;
    }))

pub returns-in-Refused-clause-scaled : goal.returns-in-Refused-clause-scaled
returns-in-Refused-clause-scaled g c = c.in-Refused.ensures.verdict

pub returns-then-not-is_start_tagged-clause-safe : goal.returns-then-not-is_start_tagged-clause-safe
returns-then-not-is_start_tagged-clause-safe g c = λ rows cases is. absurd (mixed_is_no_agreement rows cases is)

-- the verdict takes a step for each case at most, and so do the tags
pub returns-then-not-is_start_tagged-clause-steps : goal.returns-then-not-is_start_tagged-clause-steps
returns-then-not-is_start_tagged-clause-steps g c = λ cases have. steps_once _ _ cases (c.check.ensures.steps cases have)

pub returns-in-Ok-clause-steps : goal.returns-in-Ok-clause-steps
returns-in-Ok-clause-steps g c = λ cases have. steps_twice _ _ _ cases (c.check.ensures.steps cases have) (c.tagged_rows.ensures.steps cases have)

pub returns-in-Err-clause-safe : goal.returns-in-Err-clause-safe
returns-in-Err-clause-safe g c =
    λ rows cases is. absurd (told_is_no_agreement c.in-Err.told.row c.in-Err.told.fault rows cases (sym c.answer_of.ensures ∙ is))

pub returns-in-Err-clause-steps : goal.returns-in-Err-clause-steps
returns-in-Err-clause-steps g c = λ cases have. steps_twice _ _ _ cases (c.check.ensures.steps cases have) (c.tagged_rows.ensures.steps cases have)

pub returns-in-Refused-clause-safe : goal.returns-in-Refused-clause-safe
returns-in-Refused-clause-safe g c = λ rows cases is. absurd (unsafe_is_no_agreement c.in-Refused.refusal rows cases is)

pub returns-in-Refused-clause-steps : goal.returns-in-Refused-clause-steps
returns-in-Refused-clause-steps g c = λ cases have. steps_once _ _ cases (c.check.ensures.steps cases have)
