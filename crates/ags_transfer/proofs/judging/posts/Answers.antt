use Rattle.std.proofs.Common.{subst}
use Rattle.ags_safe.specs.Case.{case_of}
use Rattle.ags_safe.specs.Posts.{Outcome, IsPostsOfCase}
use Rattle.ags_transfer.proofs.judging.posts.Goals as goal

pub returns-in-Ok-clause-one_step : goal.returns-in-Ok-clause-one_step
returns-in-Ok-clause-one_step g c = let case = case_of c.args.machine.now c.args.image.now c.args.limits.now c.args.base.now c.args.word c.args.x c.args.v in
    λ s report after pair is state in_case step. c.one_step_follows_the_posts.ensures case s report after pair c.machine_is_made_of_tables.ensures
    state in_case (subst (λ (outcome : Outcome _). IsPostsOfCase g.D.Domain.meaning case outcome) is c.in-Ok.ensures.posts) step
