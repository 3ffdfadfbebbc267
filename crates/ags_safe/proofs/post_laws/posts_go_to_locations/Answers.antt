use Rattle.ags_safe.proofs.GoingLemmas.{posts_go}
use Rattle.ags_safe.proofs.post_laws.posts_go_to_locations.Goals as goal

pub returns : goal.returns
returns g c = posts_go g.D.Domain.meaning
