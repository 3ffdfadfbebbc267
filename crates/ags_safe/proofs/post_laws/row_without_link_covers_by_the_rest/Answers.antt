use Rattle.ags_safe.proofs.PlainCaseLemmas.{covers_any_link}
use Rattle.ags_safe.proofs.post_laws.row_without_link_covers_by_the_rest.Goals as goal

pub returns : goal.returns
returns g c = covers_any_link g.D.Domain.meaning
