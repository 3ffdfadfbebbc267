use Rattle.ags_domain.specs.Value.{value_meaning}
use Rattle.ags_row.specs.Cover.{Covers}
use Rattle.ags_check.proofs.FindingLemmas.{nothing_asked}
use Rattle.ags_check.proofs.laws.cover_asks_nothing_of_a_number.Goals as goal

pub returns : goal.returns
returns c = λ cert base post. nothing_asked (λ target. Covers value_meaning target base post cert.limits) cert.rows
