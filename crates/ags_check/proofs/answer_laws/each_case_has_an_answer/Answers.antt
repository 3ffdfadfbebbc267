use Rattle.ags_check.proofs.PostsLemmas.{some_posts}
use Rattle.ags_check.proofs.answer_laws.each_case_has_an_answer.Goals as goal

pub returns : goal.returns
returns g = some_posts
