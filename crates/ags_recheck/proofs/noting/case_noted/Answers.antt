use Rattle.std.proofs.Common.{◌≡◌, true, refl}
use Rattle.std.specs.Prelude.{Ok, Err}
use Rattle.ags_domain.specs.Value.{value_meaning}
use Rattle.ags_domain.specs.MeaningLaws.{value_lawful}
use Rattle.ags_safe.proofs.OneAnswerLemmas.{one_answer}
use Rattle.ags_verdict.specs.RowCase.{case_in}
use Rattle.ags_recheck.specs.Locations.{has_location}
use Rattle.ags_recheck.proofs.NotingLemmas.{pair_noted, none_noted, posts_moved, same_noted}
use Rattle.ags_recheck.proofs.noting.case_noted.Goals as goal

pub note_pair-requires : goal.note_pair-requires
note_pair-requires g c = c.in-Ok.ensures.below

pub first_uncovered-requires : goal.first_uncovered-requires
first_uncovered-requires g c = c.in-Ok.ensures.below

pub returns-in-Some : goal.returns-in-Some
returns-in-Some g c = record {
  judged =
      let posts = posts_moved c.args.machine.now c.args.image.now c.limits.result.now c.args.cert.now.limits c.args.row.now c.word-word.result c.index-x.result c.indicator-v.result
      c.args.case (Ok c.put_posts.new.pair) c.limits.ensures.limits c.word-word.ensures c.index-x.ensures.same c.indicator-v.ensures c.in-Ok.ensures.posts in
      (Ok c.put_posts.new.pair, posts, (c.in-Some.next, c.in-Some.ensures.uncovered, rw (c.word-word.ensures, c.index-x.ensures.same, c.indicator-v.ensures) refl));
  noted = λ location.
      let machine = c.machine_is_made_of_tables.ensures in
      let posts = posts_moved c.args.machine.now c.args.image.now c.limits.result.now c.args.cert.now.limits c.args.row.now c.word-word.result c.index-x.result c.indicator-v.result
      c.args.case (Ok c.put_posts.new.pair) c.limits.ensures.limits c.word-word.ensures c.index-x.ensures.same c.indicator-v.ensures c.in-Ok.ensures.posts in
      pair_noted value_meaning c.args.machine.now c.args.image.now c.args.cert.now.limits
      (case_in c.args.machine.now c.args.image.now c.args.cert.now.limits c.args.row.now c.args.case)
      (λ left right p r. one_answer value_meaning value_lawful (case_in c.args.machine.now c.args.image.now c.args.cert.now.limits c.args.row.now c.args.case) left right machine p r)
      location (has_location c.args.locations.now location ≡ true) (has_location c.note_pair.new.locations location ≡ true)
      c.put_posts.new.pair posts (c.note_pair.ensures location);
  once = tt;
  step = c.put_posts.ensures.step;
}

pub returns-in-None : goal.returns-in-None
returns-in-None g c = record {
  judged =
      let posts = posts_moved c.args.machine.now c.args.image.now c.limits.result.now c.args.cert.now.limits c.args.row.now c.word-word.result c.index-x.result c.indicator-v.result
      c.args.case (Ok c.put_posts.new.pair) c.limits.ensures.limits c.word-word.ensures c.index-x.ensures.same c.indicator-v.ensures c.in-Ok.ensures.posts in
      ((c.put_posts.new.pair, posts, c.in-None.ensures.first refl, c.in-None.ensures.second refl), refl);
  noted = λ location.
      let machine = c.machine_is_made_of_tables.ensures in
      let posts = posts_moved c.args.machine.now c.args.image.now c.limits.result.now c.args.cert.now.limits c.args.row.now c.word-word.result c.index-x.result c.indicator-v.result
      c.args.case (Ok c.put_posts.new.pair) c.limits.ensures.limits c.word-word.ensures c.index-x.ensures.same c.indicator-v.ensures c.in-Ok.ensures.posts in
      pair_noted value_meaning c.args.machine.now c.args.image.now c.args.cert.now.limits
      (case_in c.args.machine.now c.args.image.now c.args.cert.now.limits c.args.row.now c.args.case)
      (λ left right p r. one_answer value_meaning value_lawful (case_in c.args.machine.now c.args.image.now c.args.cert.now.limits c.args.row.now c.args.case) left right machine p r)
      location (has_location c.args.locations.now location ≡ true) (has_location c.note_pair.new.locations location ≡ true)
      c.put_posts.new.pair posts (c.note_pair.ensures location);
  once = refl;
  step = c.put_posts.ensures.step;
}

pub returns-in-Err : goal.returns-in-Err
returns-in-Err g c = record {
  judged =
      let posts = posts_moved c.args.machine.now c.args.image.now c.limits.result.now c.args.cert.now.limits c.args.row.now c.word-word.result c.index-x.result c.indicator-v.result
      c.args.case (Err c.in-Err.stop) c.limits.ensures.limits c.word-word.ensures c.index-x.ensures.same c.indicator-v.ensures c.in-Err.ensures.posts in
      (Err c.in-Err.stop, posts, rw c.word-word.ensures refl);
  noted = λ location.
      let machine = c.machine_is_made_of_tables.ensures in
      let posts = posts_moved c.args.machine.now c.args.image.now c.limits.result.now c.args.cert.now.limits c.args.row.now c.word-word.result c.index-x.result c.indicator-v.result
      c.args.case (Err c.in-Err.stop) c.limits.ensures.limits c.word-word.ensures c.index-x.ensures.same c.indicator-v.ensures c.in-Err.ensures.posts in
      none_noted value_meaning c.args.machine.now c.args.image.now c.args.cert.now.limits
      (case_in c.args.machine.now c.args.image.now c.args.cert.now.limits c.args.row.now c.args.case)
      (λ left right p r. one_answer value_meaning value_lawful (case_in c.args.machine.now c.args.image.now c.args.cert.now.limits c.args.row.now c.args.case) left right machine p r)
      location (has_location c.args.locations.now location ≡ true) (has_location c.args.locations.now location ≡ true)
      c.in-Err.stop posts same_noted;
  once = tt;
  step = c.put_posts.ensures.step;
}
