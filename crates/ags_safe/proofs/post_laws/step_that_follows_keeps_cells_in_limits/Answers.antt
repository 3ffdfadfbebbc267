use Rattle.ags_safe.proofs.CoverLemmas.{kept_in_limits}
use Rattle.ags_safe.proofs.post_laws.step_that_follows_keeps_cells_in_limits.Goals as goal

pub returns : goal.returns
returns g c = kept_in_limits g.D.Domain.meaning
