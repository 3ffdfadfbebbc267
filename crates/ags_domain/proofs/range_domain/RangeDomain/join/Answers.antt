use Rattle.ags_domain.proofs.PartLaws.{joined}
use Rattle.ags_domain.proofs.range_domain.RangeDomain.join.Goals as goal

pub returns : goal.returns
returns c = joined c.args.self.now c.args.other.now c.hull.result c.hull.ensures
