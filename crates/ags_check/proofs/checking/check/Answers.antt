use Rattle.std.proofs.Common.{sym, subst, length}
use Rattle.ags_domain.specs.Value.{value_meaning}
use Rattle.ags_domain.specs.MeaningLaws.{value_lawful}
use Rattle.ags_domain.specs.declared.values.Value.{Value}
use Rattle.ags_safe.proofs.RunLemmas.{safe}
use Rattle.ags_verdict.specs.Verdict.{IsVerdict}
use Rattle.ags_verdict.specs.declared.verdicts.Refusal.{Refusal}
use Rattle.ags_verdict.specs.declared.verdicts.Verdict.{Verdict}
use Rattle.ags_verdict.specs.declared.verdicts.Verdict.TheVariants.{Certified, Refused}
use Rattle.ags_verdict.proofs.VerdictLemmas.{accepted_of, certified_of, counted_of, verdict_one}
use Rattle.ags_check.proofs.FirstFaultLemmas.{fault_of_refusal, refusal_of_first}
use Rattle.ags_certtype.specs.Cert.{certificate_of}
use Rattle.ags_check.proofs.checking.check.Goals as goal

pub returns-clause-verdict : goal.returns-clause-verdict
returns-clause-verdict g c = c.verdict.ensures.verdict

pub returns-clause-safe : goal.returns-clause-safe
returns-clause-safe g c = λ rows cases is suits.
    safe value_meaning value_lawful c.args.machine.now c.args.image.now (certificate_of c.args.cert.now) c.machine_is_made_of_tables.ensures
    c.start-start.ensures.cert.certificate suits
    (accepted_of value_meaning c.args.machine.now c.args.image.now (certificate_of c.args.cert.now) rows cases
    (subst (λ (answer : Verdict Value). IsVerdict value_meaning c.args.machine.now c.args.image.now (certificate_of c.args.cert.now) answer) is c.verdict.ensures.verdict))

pub returns-clause-certified : goal.returns-clause-certified
returns-clause-certified g c = λ accepted.
    let cert = certificate_of c.args.cert.now in
    let (cases, is) = certified_of value_meaning c.args.machine.now c.args.image.now cert accepted in (
      cases,
      verdict_one value_meaning c.args.machine.now c.args.image.now cert value_lawful c.machine_is_made_of_tables.ensures c.verdict.result
          (Certified (length c.args.cert.now.rows) cases) c.verdict.ensures.verdict is,
    )

pub returns-clause-accepted : goal.returns-clause-accepted
returns-clause-accepted g c = λ rows cases is.
    let cert = certificate_of c.args.cert.now in
    let certified = subst (λ (answer : Verdict Value). IsVerdict value_meaning c.args.machine.now c.args.image.now (certificate_of c.args.cert.now) answer) is c.verdict.ensures.verdict in
    let counted = counted_of value_meaning c.args.machine.now c.args.image.now cert rows cases certified in
    (accepted_of value_meaning c.args.machine.now c.args.image.now cert rows cases certified, counted.0, counted.1)

pub returns-clause-refused : goal.returns-clause-refused
returns-clause-refused g c = λ refusal.
    let cert = certificate_of c.args.cert.now in (
      λ is. fault_of_refusal c.args.machine.now c.args.image.now cert refusal c.machine_is_made_of_tables.ensures
          (subst (λ (answer : Verdict Value). IsVerdict value_meaning c.args.machine.now c.args.image.now (certificate_of c.args.cert.now) answer) is c.verdict.ensures.verdict),
      λ told. verdict_one value_meaning c.args.machine.now c.args.image.now cert value_lawful c.machine_is_made_of_tables.ensures c.verdict.result (Refused refusal)
          c.verdict.ensures.verdict
          (subst (λ (r : Refusal Value). IsVerdict value_meaning c.args.machine.now c.args.image.now (certificate_of c.args.cert.now) (Refused r)) (sym told.2)
          (refusal_of_first c.args.machine.now c.args.image.now cert told.0 c.machine_is_made_of_tables.ensures
          c.get-first.ensures.image told.1)),
    )

pub returns-clause-steps : goal.returns-clause-steps
returns-clause-steps g c = c.verdict.ensures.steps
