use Rattle.std.proofs.Common.{refl, subst}
use Rattle.std.specs.Prelude.{Ok, Err, IfSome}
use Rattle.ags_domain.specs.Value.{value_meaning}
use Rattle.ags_domain.specs.declared.values.Value.{Value}
use Rattle.ags_row.specs.Limit.{Limiting}
use Rattle.ags_safe.specs.Case.{case_of}
use Rattle.ags_safe.specs.Posts.{IsPostsOfCase}
use Rattle.ags_safe.specs.Accepted.{IsCovered}
use Rattle.ags_verdict.specs.Fault.{IsFirstUncovered}
use Rattle.ags_certtype.specs.Cert.{certificate_of}
use Rattle.ags_check.specs.Judging.{Judging}
use Rattle.ags_check.proofs.accepting.judge_case.Goals as goal

pub returns-in-Some-clause-judged : goal.returns-in-Some-clause-judged
returns-in-Some-clause-judged g c = (
  Ok c.put_posts.new.pair,
  subst (λ (t : Judging). IsPostsOfCase value_meaning (case_of t.machine t.image t.cert.limits c.args.row.now c.args.word c.args.x c.args.v) (Ok c.put_posts.new.pair))
      c.accepting.view_is
      (subst (λ (l : Limiting Value). IsPostsOfCase value_meaning
      (case_of c.accepting.inside.machine.now c.accepting.inside.image.now l c.args.row.now c.args.word c.args.x c.args.v) (Ok c.put_posts.new.pair))
      c.limits.ensures.limits c.in-Ok.ensures.posts),
  (
    c.in-Some.next,
    subst (λ (t : Judging). IsFirstUncovered value_meaning (certificate_of t.cert) c.args.row.now c.put_posts.new.pair c.in-Some.next) c.accepting.view_is
        c.in-Some.ensures.uncovered,
    refl,
  ),
)

pub returns-in-None-clause-judged : goal.returns-in-None-clause-judged
returns-in-None-clause-judged g c = (
  (
    c.put_posts.new.pair,
    subst (λ (t : Judging). IsPostsOfCase value_meaning (case_of t.machine t.image t.cert.limits c.args.row.now c.args.word c.args.x c.args.v) (Ok c.put_posts.new.pair))
        c.accepting.view_is
        (subst (λ (l : Limiting Value). IsPostsOfCase value_meaning
        (case_of c.accepting.inside.machine.now c.accepting.inside.image.now l c.args.row.now c.args.word c.args.x c.args.v) (Ok c.put_posts.new.pair))
        c.limits.ensures.limits c.in-Ok.ensures.posts),
    subst (λ (t : Judging). IfSome c.put_posts.new.pair.first (IsCovered value_meaning (certificate_of t.cert) c.args.row.now)) c.accepting.view_is
        (c.in-None.ensures.first refl),
    subst (λ (t : Judging). IfSome c.put_posts.new.pair.second (IsCovered value_meaning (certificate_of t.cert) c.args.row.now)) c.accepting.view_is
        (c.in-None.ensures.second refl),
  ),
  refl,
)

pub returns-in-Err-clause-judged : goal.returns-in-Err-clause-judged
returns-in-Err-clause-judged g c = (
  Err c.in-Err.stop,
  subst (λ (t : Judging). IsPostsOfCase value_meaning (case_of t.machine t.image t.cert.limits c.args.row.now c.args.word c.args.x c.args.v) (Err c.in-Err.stop))
      c.accepting.view_is
      (subst (λ (l : Limiting Value). IsPostsOfCase value_meaning
      (case_of c.accepting.inside.machine.now c.accepting.inside.image.now l c.args.row.now c.args.word c.args.x c.args.v) (Err c.in-Err.stop))
      c.limits.ensures.limits c.in-Err.ensures.posts),
  refl,
)

pub returns-in-Some-clause-step : goal.returns-in-Some-clause-step
returns-in-Some-clause-step g c = c.put_posts.ensures.step

pub returns-in-None-clause-step : goal.returns-in-None-clause-step
returns-in-None-clause-step g c = c.put_posts.ensures.step

pub returns-in-Err-clause-step : goal.returns-in-Err-clause-step
returns-in-Err-clause-step g c = c.put_posts.ensures.step

pub first_uncovered_after-requires : goal.first_uncovered_after-requires
first_uncovered_after-requires g c = c.in-Ok.ensures.below
