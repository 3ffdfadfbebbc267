use Rattle.std.proofs.Common.{arith, None}
use Rattle.ags_top.proofs.WorkloadLemmas.{words_more}
use Rattle.ags_top.proofs.workload_command.words_among.Goals as goal

pub loop-card-preserved : goal.loop-card-preserved
loop-card-preserved c = λ image.
    let here = c.words_of.ensures image in
    let before = c.loop-card.invariant image in
    let added = c.in_ok-count.ensures in
    let more = words_more image c.args.cards.now c.loop-card.card-index (record { start = 0; end = 0; place = None; count = 0 }) c.loop-card-test.true in
    let same = c.from.ensures in
    omega (arith, more, before, here, added.1, same)
