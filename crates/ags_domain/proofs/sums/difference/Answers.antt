use Rattle.ags_domain.proofs.SumLaws.{differences_tried}
use Rattle.ags_domain.proofs.sums.difference.Goals as goal

pub spanned-requires : goal.spanned-requires
spanned-requires c =
    (differences_tried c.args.a.now c.args.m.now c.difference_at.result c.difference_at-2.result
    c.difference_at.ensures c.difference_at-2.ensures).ordered

pub returns : goal.returns
returns c =
    (differences_tried c.args.a.now c.args.m.now c.difference_at.result c.difference_at-2.result
    c.difference_at.ensures c.difference_at-2.ensures).answers c.spanned.result c.spanned.ensures
