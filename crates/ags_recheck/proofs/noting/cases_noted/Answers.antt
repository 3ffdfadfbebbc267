use Rattle.std.proofs.Common.{rules, ◌≡◌, ◌≤◌, ◌<◌, ◌+◌, ℕ, true, subst, sym, ◌∙◌, length, take}
use Rattle.std.specs.Prelude.{Result}
use Rattle.ags_domain.specs.Value.{value_meaning}
use Rattle.ags_domain.specs.declared.values.Value.{Value}
use Rattle.ags_verdict.specs.Fault.{IsCaseJudged}
use Rattle.ags_verdict.specs.InOrder.{InOrder}
use Rattle.ags_verdict.specs.Locality.{CaseGoesTo}
use Rattle.ags_verdict.specs.RowCase.{RowCase, case_in}
use Rattle.ags_verdict.specs.declared.verdicts.RowFault.{RowFault}
use Rattle.ags_certtype.specs.Cert.{certificate_of}
use Rattle.ags_recheck.specs.Locations.{has_location}
use Rattle.ags_recheck.proofs.OrderLemmas.{one_more, all_judged, few_below, few_further, few_all}
use Rattle.ags_recheck.proofs.NotingLemmas.{none_first, one_further, all_first}
use Rattle.ags_recheck.proofs.EditLemmas.{true_false}
use Rattle.ags_recheck.proofs.noting.cases_noted.Goals as goal

pub join-outcome-requires-clause-few : goal.join-outcome-requires-clause-few
join-outcome-requires-clause-few g c =
    let inside : c.loop-case.case-index < 256 = search rules in
    few_below c.loop-case.outcome c.loop-case.case-index inside c.loop-case.invariant.2

pub loop-case-init : goal.loop-case-init
loop-case-init g c = (
  search rules,
  λ location. none_first (λ (x : RowCase). CaseGoesTo value_meaning c.args.machine.now c.args.image.now c.args.cert.now.limits
      (case_in c.args.machine.now c.args.image.now c.args.cert.now.limits c.args.row.now x) location) c.args.cases.now (has_location c.args.locations.now location ≡ true)
      (λ has. true_false (sym has ∙ c.requires.empty location)),
  search rules,
  search rules,
)

pub loop-case-preserved : goal.loop-case-preserved
loop-case-preserved g c = (
  subst (λ (r : Result ℕ (RowFault Value)). InOrder (λ position x o. IsCaseJudged value_meaning (certificate_of c.args.cert.now)
      (case_in c.args.machine.now c.args.image.now c.args.cert.now.limits c.args.row.now x) o) 0 (take (c.loop-case.case-index + 1) c.args.cases.now) r)
      (sym c.join-outcome.ensures)
      (one_more (λ position x o. IsCaseJudged value_meaning (certificate_of c.args.cert.now)
      (case_in c.args.machine.now c.args.image.now c.args.cert.now.limits c.args.row.now x) o) 0 c.args.cases.now
      c.loop-case.case-index c.case-item.result c.case-item.result c.loop-case.outcome c.case_noted-one.result c.loop-case-test.true c.case-item.is
      c.loop-case.invariant.0 c.case_noted-one.ensures.judged),
  λ location. one_further (λ (x : RowCase). CaseGoesTo value_meaning c.args.machine.now c.args.image.now c.args.cert.now.limits
      (case_in c.args.machine.now c.args.image.now c.args.cert.now.limits c.args.row.now x) location) c.args.cases.now
      c.loop-case.case-index c.case-item.result (has_location c.loop-case.locations location ≡ true)
      (has_location c.case_noted-one.new.locations location ≡ true)
      c.loop-case-test.true c.case-item.is (c.loop-case.invariant.1 location) (c.case_noted-one.ensures.noted location),
  few_further c.loop-case.outcome c.case_noted-one.result c.join-outcome.result c.loop-case.case-index c.join-outcome.ensures c.loop-case.invariant.2 c.case_noted-one.ensures.once,
  search rules,
)

pub returns-clause-judged : goal.returns-clause-judged
returns-clause-judged g c =
    let whole : length c.args.cases.now ≤ c.loop-case.case-index = search rules in
    all_judged (λ position x o. IsCaseJudged value_meaning (certificate_of c.args.cert.now)
    (case_in c.args.machine.now c.args.image.now c.args.cert.now.limits c.args.row.now x) o) 0 c.args.cases.now c.loop-case.case-index c.loop-case.outcome whole c.loop-case.invariant.0

pub returns-clause-noted : goal.returns-clause-noted
returns-clause-noted g c = λ location.
    let whole : length c.args.cases.now ≤ c.loop-case.case-index = search rules in
    all_first (λ (x : RowCase). CaseGoesTo value_meaning c.args.machine.now c.args.image.now c.args.cert.now.limits
    (case_in c.args.machine.now c.args.image.now c.args.cert.now.limits c.args.row.now x) location) c.args.cases.now c.loop-case.case-index
    (has_location c.loop-case.locations location ≡ true) whole (c.loop-case.invariant.1 location)

pub returns-clause-counted : goal.returns-clause-counted
returns-clause-counted g c =
    let few : c.loop-case.case-index ≤ 256 = search rules in
    few_all c.loop-case.outcome c.loop-case.case-index few c.loop-case.invariant.2
