use Rattle.ags_domain.specs.Range.{range_ends}
use Rattle.ags_domain.proofs.HullLaws.{AreEnds-range}
use Rattle.ags_domain.proofs.QuotientLaws.{zero_told}
use Rattle.ags_domain.proofs.quotients.quotients_by_zero.Goals as goal

pub returns : goal.returns
returns c = zero_told (range_ends c.args.a.now) (range_ends c.args.m.now) (AreEnds-range c.args.a.now) c.requires
