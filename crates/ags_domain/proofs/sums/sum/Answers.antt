use Rattle.ags_domain.proofs.SumLaws.{sums_tried}
use Rattle.ags_domain.proofs.sums.sum.Goals as goal

pub spanned-requires : goal.spanned-requires
spanned-requires c =
    (sums_tried c.args.a.now c.args.m.now c.sum_at.result c.sum_at-2.result
    c.sum_at.ensures c.sum_at-2.ensures).ordered

pub returns : goal.returns
returns c =
    (sums_tried c.args.a.now c.args.m.now c.sum_at.result c.sum_at-2.result
    c.sum_at.ensures c.sum_at-2.ensures).answers c.spanned.result c.spanned.ensures
