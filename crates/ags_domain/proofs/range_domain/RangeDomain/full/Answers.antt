use Rattle.ags_domain.proofs.PartLaws.{full}
use Rattle.ags_domain.proofs.range_domain.RangeDomain.full.Goals as goal

pub returns : goal.returns
returns c = full c.all.result c.all.ensures
