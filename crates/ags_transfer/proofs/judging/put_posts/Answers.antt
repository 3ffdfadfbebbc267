use Rattle.ags_safe.specs.Case.{case_of}
use Rattle.ags_transfer.specs.Outcome.{outcome_of}
use Rattle.ags_transfer.proofs.judging.put_posts.Goals as goal

pub returns-clause-below : goal.returns-clause-below
returns-clause-below g c = let case = case_of c.args.machine.now c.args.image.now c.args.limits.now c.args.base.now c.args.word c.args.x c.args.v in
    c.posts_go_to_locations.ensures case (outcome_of c.put_posts.result c.put_posts.new.pair) c.requires.index c.put_posts.ensures.posts
