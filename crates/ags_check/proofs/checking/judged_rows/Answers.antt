use Rattle.std.proofs.Common.{◌≤◌, List, sym, subst, length}
use Rattle.std.specs.Prelude.{Err}
use Rattle.ags_domain.specs.Value.{value_meaning}
use Rattle.ags_domain.specs.declared.values.Value.{Value}
use Rattle.ags_row.specs.Limit.{Limiting}
use Rattle.ags_row.specs.declared.rows.Row.{Row}
use Rattle.ags_verdict.specs.Fault.{IsCaseJudged}
use Rattle.ags_verdict.specs.RowCase.{case_in}
use Rattle.ags_verdict.specs.declared.verdicts.RowFault.TheVariants.{CodeUnknown}
use Rattle.ags_verdict.specs.Counting.{HaveCases}
use Rattle.ags_verdict.specs.Walk.{AreWalked}
use Rattle.ags_certtype.specs.Cert.{certificate_of}
use Rattle.ags_check.specs.Judging.{Judging}
use Rattle.ags_check.proofs.RowsLemmas.{walked_judged}
use Rattle.ags_check.proofs.checking.judged_rows.Goals as goal

pub walk_rows-requires : goal.walk_rows-requires
walk_rows-requires g c = subst (λ (rs : List (Row Value)). length rs ≤ 20000) (sym c.rows.ensures.rows) c.rows.ensures.cert.few_rows

pub returns-clause-judged : goal.returns-clause-judged
returns-clause-judged g c = walked_judged c.args.machine.now c.args.image.now (certificate_of c.args.cert.now) c.limits.result.now c.rows.result.now
    c.walk_rows.result c.refusal_at.result c.limits.ensures.limits c.rows.ensures.rows c.refusal_at.ensures.counted c.refusal_at.ensures.refused
    (subst (λ (t : Judging). AreWalked value_meaning c.args.image.now c.limits.result.now (Err CodeUnknown)
    (λ number row one outcome. IsCaseJudged value_meaning (certificate_of t.cert) (case_in t.machine t.image t.cert.limits row one) outcome)
    c.rows.result.now c.walk_rows.result) c.new-accepting.ensures c.walk_rows.ensures.judged)

pub returns-clause-steps : goal.returns-clause-steps
returns-clause-steps g c = λ cases have. c.walk_rows.ensures.steps cases
    (subst (λ (l : Limiting Value). HaveCases value_meaning c.args.image.now l c.rows.result.now cases) (sym c.limits.ensures.limits)
    (subst (λ (rs : List (Row Value)). HaveCases value_meaning c.args.image.now c.args.cert.now.limits rs cases) (sym c.rows.ensures.rows) have))
