use Rattle.std.proofs.Common.{List, sym, subst}
use Rattle.ags_domain.specs.Value.{value_meaning}
use Rattle.ags_domain.specs.declared.values.Value.{Value}
use Rattle.ags_row.specs.Limit.{Limiting}
use Rattle.ags_row.specs.declared.rows.Row.{Row}
use Rattle.ags_verdict.specs.Counting.{HaveCases}
use Rattle.ags_verdict.specs.RowCase.{case_in}
use Rattle.ags_certtype.specs.Cert.{certificate_of}
use Rattle.ags_check.proofs.AcceptedRowsLemmas.{handed_rows_judged}
use Rattle.ags_scale.specs.Tagging.{IsCaseTagged}
use Rattle.ags_scale.proofs.judging.tagged_rows.Goals as goal

pub returns-clause-tagged : goal.returns-clause-tagged
returns-clause-tagged g c = handed_rows_judged c.args.machine.now c.args.image.now c.args.cert.now
    (λ number row case o. IsCaseTagged value_meaning (certificate_of c.args.cert.now) c.args.scales.now number
    (case_in c.args.machine.now c.args.image.now c.args.cert.now.limits row case) o) c.limits.result.now c.rows.result.now c.walk_rows.result
    c.limits.ensures.limits c.rows.ensures.rows c.requires c.walk_rows.ensures.judged

pub returns-clause-steps : goal.returns-clause-steps
returns-clause-steps g c = λ cases have. c.walk_rows.ensures.steps cases
    (subst (λ (l : Limiting Value). HaveCases value_meaning c.args.image.now l c.rows.result.now cases) (sym c.limits.ensures.limits)
    (subst (λ (rs : List (Row Value)). HaveCases value_meaning c.args.image.now c.args.cert.now.limits rs cases) (sym c.rows.ensures.rows) have))
