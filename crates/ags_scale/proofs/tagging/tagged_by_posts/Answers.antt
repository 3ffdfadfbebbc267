use Rattle.std.proofs.Common.{inr, refl}
use Rattle.std.specs.Prelude.{Ok, Err}
use Rattle.ags_domain.specs.Value.{value_meaning}
use Rattle.ags_domain.specs.MeaningLaws.{value_lawful}
use Rattle.ags_safe.proofs.OneAnswerLemmas.{one_answer}
use Rattle.ags_verdict.specs.RowCase.{case_in}
use Rattle.ags_certtype.specs.Cert.{certificate_of}
use Rattle.ags_scale.proofs.TaggingLemmas.{no_stop, posts_moved}
use Rattle.ags_scale.proofs.tagging.tagged_by_posts.Goals as goal

pub first_lost-requires : goal.first_lost-requires
first_lost-requires g c = c.in-Ok.ensures.below

pub returns-in-Some : goal.returns-in-Some
returns-in-Some g c = record {
  judged = λ accepted. inr (record {
    tags = c.args.tags;
    are_tags = c.requires;
    pair = c.put_posts.new.pair;
    posts = posts_moved c.args.tagging.now.machine.now c.args.tagging.now.image.now c.limits.result.now c.args.tagging.now.cert.now.limits c.args.row.now
        c.word-word.result c.index-x.result c.indicator-v.result c.args.case (Ok c.put_posts.new.pair) c.limits.ensures.limits c.word-word.ensures
        c.index-x.ensures.same c.indicator-v.ensures c.in-Ok.ensures.posts;
    next = c.in-Some.next;
    lost = c.in-Some.ensures.lost;
    is = rw (c.word-word.ensures, c.index-x.ensures.same, c.indicator-v.ensures) refl;
  });
  once = tt;
  step = c.put_posts.ensures.step;
}

pub returns-in-None : goal.returns-in-None
returns-in-None g c = record {
  judged = λ accepted. (
    record {
      tags = c.args.tags;
      are_tags = c.requires;
      pair = c.put_posts.new.pair;
      posts = posts_moved c.args.tagging.now.machine.now c.args.tagging.now.image.now c.limits.result.now c.args.tagging.now.cert.now.limits c.args.row.now
          c.word-word.result c.index-x.result c.indicator-v.result c.args.case (Ok c.put_posts.new.pair) c.limits.ensures.limits c.word-word.ensures
          c.index-x.ensures.same c.indicator-v.ensures c.in-Ok.ensures.posts;
      taken = c.in-None.ensures.taken refl;
    },
    refl,
  );
  once = refl;
  step = c.put_posts.ensures.step;
}

-- an accepted case doesn't stop
pub returns-in-Err : goal.returns-in-Err
returns-in-Err g c = record {
  judged = λ accepted.
      let t = c.args.tagging.now in
      let its = case_in t.machine.now t.image.now t.cert.now.limits c.args.row.now c.args.case in
      let machine = c.machine_is_made_of_tables.ensures in
      let posts = posts_moved t.machine.now t.image.now c.limits.result.now t.cert.now.limits c.args.row.now c.word-word.result c.index-x.result c.indicator-v.result c.args.case
      (Err c.in-Err.field-0) c.limits.ensures.limits c.word-word.ensures c.index-x.ensures.same c.indicator-v.ensures c.in-Err.ensures.posts in
      absurd (no_stop value_meaning (certificate_of t.cert.now) its (λ left right p r. one_answer value_meaning value_lawful its left right machine p r) accepted
      c.in-Err.field-0 posts);
  once = refl;
  step = c.put_posts.ensures.step;
}
