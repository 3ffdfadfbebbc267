use Rattle.ags_domain.proofs.ShiftLaws.{lefts_tried}
use Rattle.ags_domain.proofs.shifts.left_shifts.Goals as goal

pub spanned-requires : goal.spanned-requires
spanned-requires c =
    (lefts_tried c.args.count c.args.a.now c.left_shift_at.result c.left_shift_at-2.result
    c.left_shift_at.ensures c.left_shift_at-2.ensures).ordered

pub returns : goal.returns
returns c =
    (lefts_tried c.args.count c.args.a.now c.left_shift_at.result c.left_shift_at-2.result
    c.left_shift_at.ensures c.left_shift_at-2.ensures).answers c.spanned.result c.spanned.ensures
