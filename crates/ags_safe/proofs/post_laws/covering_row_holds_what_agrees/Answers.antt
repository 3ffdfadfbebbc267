use Rattle.ags_safe.proofs.CoverLemmas.{covered}
use Rattle.ags_safe.proofs.post_laws.covering_row_holds_what_agrees.Goals as goal

pub returns : goal.returns
returns g c = covered g.D.Domain.meaning
