use Rattle.std.proofs.Common.{◌≡◌, ℕ, true}
use Rattle.ags_verdict.proofs.LocalityLemmas.{judged_alike}
use Rattle.ags_verdict.proofs.laws.row_is_judged_by_the_rows_that_its_posts_go_to.Goals as goal

pub returns : goal.returns
returns g c = λ machine image cert at one other row outcome differ avoids is.
    judged_alike g.D.Domain.meaning machine image cert (λ location. at location ≡ true) one other differ row avoids outcome is
