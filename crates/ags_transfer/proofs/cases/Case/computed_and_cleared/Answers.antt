use Rattle.std.proofs.Common.{subst, sym}
use Rattle.ags_row.specs.declared.posts.Post.{Post}
use Rattle.ags_safe.specs.Line.{IsPostOf}
use Rattle.ags_safe.specs.Posts.{IsCleared}
use Rattle.ags_transfer.specs.Outcome.{outcome_of}
use Rattle.ags_transfer.specs.Decision.{single_pair}
use Rattle.ags_transfer.proofs.DecisionLemmas.{decides_from}
use Rattle.ags_transfer.proofs.cases.Case.computed_and_cleared.Goals as goal

pub returns-in-Ok : goal.returns-in-Ok
returns-in-Ok g c = λ line is_post. decides_from g.D.Domain.meaning c.args.self.now c.args.answer c.args.post.now c.in-Ok.new line
    (IsCleared g.D.Domain.meaning c.args.self.now c.args.e) (outcome_of c.cleared.result (single_pair c.cleared.new.post)) c.in-Ok.ensures is_post
    (λ next is_next. c.cleared.ensures next
    (subst (λ (p : Post _). IsPostOf g.D.Domain.meaning c.args.self.now next p) (sym c.put_into.ensures) is_next))
