use Rattle.ags_domain.proofs.ShiftLaws.{long_lefts_tried}
use Rattle.ags_domain.proofs.shifts.long_lefts.Goals as goal

pub spanned-requires : goal.spanned-requires
spanned-requires c =
    (long_lefts_tried c.args.count c.args.a.now c.long_left_at.result c.long_left_at-2.result c.low_bits.result c.low_bits.ensures
    c.long_left_at.ensures c.long_left_at-2.ensures).ordered

pub returns : goal.returns
returns c =
    (long_lefts_tried c.args.count c.args.a.now c.long_left_at.result c.long_left_at-2.result c.low_bits.result c.low_bits.ensures
    c.long_left_at.ensures c.long_left_at-2.ensures).answers c.spanned.result c.spanned.ensures
