use Rattle.ags_domain.proofs.SignLaws.{negatives_tried}
use Rattle.ags_domain.proofs.signs.negatives.Goals as goal

pub spanned-requires : goal.spanned-requires
spanned-requires c =
    (negatives_tried c.args.a.now c.negative_at.result c.negative_at-2.result
    c.negative_at.ensures c.negative_at-2.ensures).ordered

pub returns : goal.returns
returns c =
    (negatives_tried c.args.a.now c.negative_at.result c.negative_at-2.result
    c.negative_at.ensures c.negative_at-2.ensures).answers c.spanned.result c.spanned.ensures
