use Rattle.std.proofs.Common.{refl, sym, subst}
use Rattle.std.specs.Prelude.{Option, IfSome}
use Rattle.ags_domain.specs.Value.{value_meaning}
use Rattle.ags_domain.specs.declared.values.Value.{Value}
use Rattle.ags_row.specs.Cover.{Covers}
use Rattle.ags_row.specs.declared.posts.Post.{Post}
use Rattle.ags_safe.specs.Accepted.{IsCovered}
use Rattle.ags_verdict.specs.Fault.{IsUncovered}
use Rattle.ags_certtype.specs.Cert.{certificate_of}
use Rattle.ags_check.proofs.FindingLemmas.{some_has, none_has}
use Rattle.ags_check.proofs.coverage.uncovered.Goals as goal

pub returns-in-Some-covering_row_after-clause-covered : goal.returns-in-Some-covering_row_after-clause-covered
returns-in-Some-covering_row_after-clause-covered c = λ none. subst
    (λ (o : Option (Post Value)). IfSome o (IsCovered value_meaning (certificate_of c.args.cert.now) c.args.row.now)) (sym c.in-Some.is)
    (some_has (λ target. Covers value_meaning target c.args.row.now c.in-Some.post c.args.cert.now.limits) c.args.cert.now.rows
    c.in-Some-covering_row_after.field-0 c.in-Some-covering_row_after.ensures)

pub returns-in-None-covering_row_after-clause-uncovered : goal.returns-in-None-covering_row_after-clause-uncovered
returns-in-None-covering_row_after-clause-uncovered c = subst
    (λ (o : Option (Post Value)). IsUncovered value_meaning (certificate_of c.args.cert.now) c.args.row.now o c.in-Some.post.next) (sym c.in-Some.is) (
      none_has (λ target. Covers value_meaning target c.args.row.now c.in-Some.post c.args.cert.now.limits) c.args.cert.now.rows
          c.in-None-covering_row_after.ensures,
      refl,
    )
