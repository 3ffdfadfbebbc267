use Rattle.std.proofs.Common.{refl}
use Rattle.std.specs.Prelude.{Ok, Err}
use Rattle.ags_domain.specs.Value.{value_meaning}
use Rattle.ags_domain.specs.MeaningLaws.{value_lawful}
use Rattle.ags_safe.proofs.OneAnswerLemmas.{one_answer}
use Rattle.ags_verdict.specs.RowCase.{case_in}
use Rattle.ags_certtype.specs.Cert.{certificate_of}
use Rattle.ags_budget.proofs.TimingLemmas.{covered_posts, no_stop, late_case, timed_case, posts_moved}
use Rattle.ags_budget.proofs.timing.timed_by_posts.Goals as goal

pub first_late-requires-clause-time : goal.first_late-requires-clause-time
first_late-requires-clause-time g c = c.requires.time

pub first_late-requires-clause-next : goal.first_late-requires-clause-next
first_late-requires-clause-next g c = c.in-Ok.ensures.below

pub returns-in-Some : goal.returns-in-Some
returns-in-Some g c = record {
  judged = λ accepted.
      let t = c.args.timing.now in
      let cert = certificate_of t.cert.now in
      let its = case_in t.machine.now t.image.now t.cert.now.limits c.args.row.now c.args.case in
      let machine = c.machine_is_made_of_tables.ensures in
      let posts = posts_moved t.machine.now t.image.now c.limits.result.now t.cert.now.limits c.args.row.now c.word.result c.index.result c.indicator.result c.args.case
      (Ok c.put_posts.new.pair) c.limits.ensures.limits c.word.ensures c.index.ensures.same c.indicator.ensures c.in-Ok.ensures.posts in
      let covered = covered_posts value_meaning cert its (λ left right p r. one_answer value_meaning value_lawful its left right machine p r) accepted c.put_posts.new.pair posts in
      rw c.late_case.ensures (late_case value_meaning cert t.budget.now c.args.number c.bound-bound.result c.args.time its c.requires.order.0 c.requires.order.1 c.requires.order.2
      c.requires.order.3 c.bound-bound.ensures.bound c.put_posts.new.pair posts c.in-Some.need.next c.in-Some.need.needs c.args.case.word c.args.case.index c.args.case.indicator
      refl refl refl (c.in-Some.ensures.late covered.0));
  once = tt;
  step = c.put_posts.ensures.step;
}

pub returns-in-None : goal.returns-in-None
returns-in-None g c = record {
  judged = λ accepted.
      let t = c.args.timing.now in
      let cert = certificate_of t.cert.now in
      let its = case_in t.machine.now t.image.now t.cert.now.limits c.args.row.now c.args.case in
      let machine = c.machine_is_made_of_tables.ensures in
      let posts = posts_moved t.machine.now t.image.now c.limits.result.now t.cert.now.limits c.args.row.now c.word.result c.index.result c.indicator.result c.args.case
      (Ok c.put_posts.new.pair) c.limits.ensures.limits c.word.ensures c.index.ensures.same c.indicator.ensures c.in-Ok.ensures.posts in
      let covered = covered_posts value_meaning cert its (λ left right p r. one_answer value_meaning value_lawful its left right machine p r) accepted c.put_posts.new.pair posts in (
        timed_case value_meaning cert t.budget.now c.args.number c.bound-bound.result c.args.time its c.requires.order.0 c.requires.order.1 c.requires.order.2
            c.requires.order.3 c.bound-bound.ensures.bound c.put_posts.new.pair posts (c.in-None.ensures.in_time covered.0 covered.1 refl),
        refl,
      );
  once = refl;
  step = c.put_posts.ensures.step;
}

pub returns-in-Err : goal.returns-in-Err
returns-in-Err g c = record {
  judged = λ accepted.
      let t = c.args.timing.now in
      let cert = certificate_of t.cert.now in
      let its = case_in t.machine.now t.image.now t.cert.now.limits c.args.row.now c.args.case in
      let machine = c.machine_is_made_of_tables.ensures in
      let posts = posts_moved t.machine.now t.image.now c.limits.result.now t.cert.now.limits c.args.row.now c.word.result c.index.result c.indicator.result c.args.case
      (Err c.in-Err.field-0) c.limits.ensures.limits c.word.ensures c.index.ensures.same c.indicator.ensures c.in-Err.ensures.posts in
      absurd (no_stop value_meaning cert its (λ left right p r. one_answer value_meaning value_lawful its left right machine p r) accepted c.in-Err.field-0 posts);
  once = refl;
  step = c.put_posts.ensures.step;
}
