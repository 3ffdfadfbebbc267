use Rattle.ags_domain.proofs.PartLaws.{full}
use Rattle.ags_domain.proofs.ValueLaws.{full_value}
use Rattle.ags_domain.proofs.value_domain.ValueDomain.full.Goals as goal

pub returns : goal.returns
returns c = full_value c.all.result (full c.all.result c.all.ensures)
