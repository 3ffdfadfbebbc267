use Rattle.ags_safe.proofs.OneStepLemmas.{one_step}
use Rattle.ags_safe.proofs.post_laws.one_step_follows_the_posts.Goals as goal

pub returns : goal.returns
returns g c = one_step g.D.Domain.meaning g.met.D.Domain.lawful
