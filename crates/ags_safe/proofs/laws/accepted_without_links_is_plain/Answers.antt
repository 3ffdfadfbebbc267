use Rattle.ags_safe.proofs.PlainLemmas.{plainly, linked}
use Rattle.ags_safe.proofs.laws.accepted_without_links_is_plain.Goals as goal

pub returns : goal.returns
returns g c = λ machine image cert unlinked.
    (plainly g.D.Domain.meaning machine image cert unlinked, linked g.D.Domain.meaning machine image cert unlinked)
