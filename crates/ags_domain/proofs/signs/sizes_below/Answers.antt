use Rattle.ags_domain.specs.Range.{range_ends}
use Rattle.ags_domain.proofs.HullLaws.{AreEnds-range}
use Rattle.ags_domain.proofs.SignLaws.{size_span_below, sizes_tried}
use Rattle.ags_domain.proofs.signs.sizes_below.Goals as goal

pub spanned-requires : goal.spanned-requires
spanned-requires c =
    let a = c.args.a.now in
    (sizes_tried a c.size_at.result c.size_at-2.result a.greatest a.least (size_span_below (range_ends a) (AreEnds-range a) c.requires)
    c.size_at.ensures c.size_at-2.ensures).ordered

pub returns : goal.returns
returns c =
    let a = c.args.a.now in
    (sizes_tried a c.size_at.result c.size_at-2.result a.greatest a.least (size_span_below (range_ends a) (AreEnds-range a) c.requires)
    c.size_at.ensures c.size_at-2.ensures).answers c.spanned.result c.spanned.ensures
