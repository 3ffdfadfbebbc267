use Rattle.std.proofs.Common.{rules}
use Rattle.ags_certtype.proofs.CheckLemmas.{none_counted, counted_further, too_many, all_counted, read_count, refused, taken}
use Rattle.ags_certtype.proofs.checks.are_few_at_each.Goals as goal

pub loop-row-init : goal.loop-row-init
loop-row-init c = none_counted c.args.rows.now c.in_ok-counts.counts.items c.in_ok-counts.ensures

pub returns-then-is_full : goal.returns-then-is_full
returns-then-is_full c = refused (too_many c.args.rows.now c.loop-row.row-index c.loop-row.counts.items c.loop-row.invariant
    c.row-item.result (search rules) c.row-item.is c.index-count.result.now
    (read_count c.loop-row.counts.items c.location-place.result c.row-item.result.location c.index-count.result.now c.location-place.ensures (search rules) (search rules)) (c.is_full.ensures.full c.if-is_full.true))

pub loop-row-preserved : goal.loop-row-preserved
loop-row-preserved c = rw c.location-place.ensures (counted_further c.args.rows.now c.loop-row.row-index c.loop-row.counts.items c.loop-row.invariant
    c.row-item.result (search rules) c.row-item.is c.index-count.result.now
    (read_count c.loop-row.counts.items c.location-place.result c.row-item.result.location c.index-count.result.now c.location-place.ensures (search rules) (search rules)) c.row-item.result.below (c.is_full.ensures.room c.if-is_full.false))

pub returns : goal.returns
returns c = taken (all_counted c.args.rows.now c.loop-row.row-index c.loop-row.counts.items c.loop-row.invariant (search rules))
